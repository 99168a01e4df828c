-- States of which a search that makes undisputed acts at once says that they are enough.
use Rattle.std.specs.Prelude.{◌≡◌, ◌⊎◌, ℕ, List, [], ◌∷◌, ◌++◌, Some, Contains}
use Rattle.lrc_program.specs.declared.Program.{Program}
use Rattle.lrc_trace.specs.declared.act.Act.{Act}
use Rattle.lrc_trace.specs.declared.act.Deed.{Deed}
use Rattle.lrc_trace.specs.Run.{act_of}
use Rattle.lrc_exec.specs.Plain.{Plain, plain_step, plain_from, plain_start}
use Rattle.lrc_exec.specs.Follows.{nodes_of_acts}
use Rattle.lrc_orders_undisputed.specs.Undisputed.{IsUndisputed}
use Rattle.lrc_orders_undisputed.specs.Findings.{Finding, Shows, StandsFor}
use Rattle.lrc_orders_undisputed.specs.Rounds.{ComesRound}

-- undisputed acts, of any nodes, each where no order disputes it, lead from one state to the other
pub data Advances : Plain → List Act → Plain → Type 0 where
  arrived : (machine : Plain) → Advances machine [] machine
  further : (machine mid final : Plain) (node : ℕ) (deed : Deed) (acts : List Act) → IsUndisputed machine node deed mid → Advances mid acts final
      → Advances machine (act_of node deed ∷ acts) final

-- one of the states, each with the acts that led there, stands for this one
pub record IsStoodFor (finding : Finding) (states : List (List Act × Plain)) (past : List Act) (machine : Plain) : Type 0 where
  pub acts : List Act
  pub there : Plain
  pub among : Contains states (acts, there)
  pub stands : StandsFor finding past machine acts there

-- The acts of each state lead to it from the start. One of the states stands for the start, and one for each state to which a step leads from
-- one of them, but for the steps of nodes that come round by undisputed acts.
pub record Suffice (program : Program) (nodes : ℕ) (finding : Finding) (states : List (List Act × Plain)) : Type 0 where
  pub led : (acts : List Act) (machine : Plain) → Contains states (acts, machine)
      → plain_from (plain_start program nodes) (nodes_of_acts acts) ≡ Some (acts, machine)
  pub start : IsStoodFor finding states [] (plain_start program nodes)
  pub closed : (past : List Act) (before after : Plain) (node : ℕ) (deed : Deed) → Contains states (past, before)
      → plain_step before node ≡ Some (deed, after)
      → ComesRound before node ⊎ IsStoodFor finding states (past ++ act_of node deed ∷ []) after

-- one of the states shows it
pub record SomeStateShows (states : List (List Act × Plain)) (finding : Finding) : Type 0 where
  pub acts : List Act
  pub machine : Plain
  pub among : Contains states (acts, machine)
  pub shows : Shows finding acts machine
