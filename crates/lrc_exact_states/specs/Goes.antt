-- Exact runs that decide alike what is still to come.
use Rattle.std.specs.Prelude.{◌≡◌, ℕ, ◌<◌, ◌↔◌, List, ◌++◌, Some}
use Rattle.lrc_program.specs.declared.Program.{Program}
use Rattle.lrc_trace.specs.declared.act.Act.{Act}
use Rattle.lrc_trace.specs.declared.act.Deed.{Deed}
use Rattle.lrc_exec.specs.Plain.{start_of}
use Rattle.lrc_exec.specs.Follows.{Makes, deeds_of}
use Rattle.lrc_orders.specs.Notes.{notes_of}
use Rattle.lrc_exact.specs.Rule.{Shape, State}
use Rattle.lrc_exact_laws.specs.Laws.{IsExactRun}
use Rattle.lrc_exact_states.specs.Runs.{AreRunsAlike, Base}

-- each node's text goes on with the same deeds, and the nodes have printed the same
pub record IsTextAlike (program : Program) (nodes : ℕ) (run run' : List Act) : Type 0 where
  pub makes : (n : ℕ) → n < nodes → (more : List Deed)
      → Makes (Some (start_of program nodes n)) (deeds_of n run ++ more) ↔ Makes (Some (start_of program nodes n)) (deeds_of n run' ++ more)
  pub notes : notes_of nodes run ≡ notes_of nodes run'

-- Two exact runs stand alike: their texts, and their states, seen from these bases.
pub record AreAlike (program : Program) (shape : Shape) (cap : ℕ) (base base' : Base) (run run' : List Act) (states states' : List State) : Type 0 where
  pub exact : IsExactRun program shape run
  pub exact' : IsExactRun program shape run'
  pub text : IsTextAlike program shape.nodes run run'
  pub alike : AreRunsAlike shape cap base base' run run' states states'
