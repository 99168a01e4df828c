-- Orders in which a node traps.
use Rattle.std.specs.Prelude.{◌≡◌, ℕ, Bool, true, false, Some, List}
use Rattle.std.specs.List.{list_any}
use Rattle.lrc_program.specs.declared.Program.{Program}
use Rattle.lrc_trace.specs.declared.act.Act.{Act}
use Rattle.lrc_trace.specs.declared.act.Deed.{Deed}
use Rattle.lrc_trace.specs.declared.act.Deed.TheVariants.{Trap}
use Rattle.lrc_exec.specs.Plain.{Plain, plain_start, plain_from}

-- whether a deed is a trap
abbrev pub is_trap : Deed → Bool
is_trap (Trap cause) = true
is_trap _ = false

-- whether one of the acts is a trap, so that its node has trapped
abbrev pub has_trap : List Act → Bool
has_trap acts = list_any (λ (act : Act). is_trap act.deed) acts

-- in this order a node traps
pub record NodeTraps (program : Program) (nodes : ℕ) (order : List ℕ) : Type 0 where
  pub acts : List Act
  pub machine : Plain
  pub led : plain_from (plain_start program nodes) order ≡ Some (acts, machine)
  pub traps : has_trap acts ≡ true

-- in no order a node does
abbrev pub NeverTraps : Program → ℕ → Type 0
NeverTraps program nodes = (order : List ℕ) → ¬ NodeTraps program nodes order
