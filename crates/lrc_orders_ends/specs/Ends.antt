-- Orders that can end.
use Rattle.std.specs.Prelude.{◌≡◌, ℕ, List, ◌++◌, Option, Some, None}
use Rattle.lrc_program.specs.declared.Program.{Program}
use Rattle.lrc_trace.specs.declared.act.Act.{Act}
use Rattle.lrc_exec.specs.Plain.{Plain, plain_from, plain_start}
use Rattle.lrc_orders.specs.Stuck.{IsAtRest}

-- an order can end: it is the beginning of one after which no node can make an act
pub record CanEnd (program : Program) (nodes : ℕ) (order : List ℕ) : Type 0 where
  pub more : List ℕ
  pub acts : List Act
  pub machine : Plain
  pub led : plain_from (plain_start program nodes) (order ++ more) ≡ Some (acts, machine)
  pub still : IsAtRest machine

-- the plain machine makes the acts of an order, which can no longer end
pub record CannotEnd (program : Program) (nodes : ℕ) (order : List ℕ) : Type 0 where
  pub acts : List Act
  pub machine : Plain
  pub led : plain_from (plain_start program nodes) order ≡ Some (acts, machine)
  pub never : ¬ CanEnd program nodes order

-- each order whose acts the plain machine makes can end
abbrev pub EveryOrderCanEnd : Program → ℕ → Type 0
EveryOrderCanEnd program nodes =
    (order : List ℕ) (acts : List Act) (machine : Plain) → plain_from (plain_start program nodes) order ≡ Some (acts, machine)
    → CanEnd program nodes order

-- the order given can no longer end, or each order can
abbrev pub TellsEnd : Program → (nodes : ℕ) → Option (List ℕ) → Type 0
TellsEnd program nodes None = EveryOrderCanEnd program nodes
TellsEnd program nodes (Some order) = CannotEnd program nodes order
