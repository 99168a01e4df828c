-- What a search answers of a program.
use Rattle.std.specs.Prelude.{◌≡◌, ℕ, ◌+◌, ◌≤◌, List, Option, Some, None, length, option_map}
use Rattle.lrc_program.specs.declared.Program.{Program}
use Rattle.lrc_trace.specs.declared.act.Act.{Act}
use Rattle.lrc_trace.specs.Conflict.{Races}
use Rattle.lrc_exec.specs.Plain.{plain}
use Rattle.lrc_orders.specs.declared.search.Findings.{Findings}
use Rattle.lrc_orders.specs.declared.search.Verdict.{Verdict}
use Rattle.lrc_orders.specs.declared.search.Verdict.TheVariants.{RaceFree, Racy}
use Rattle.lrc_orders.specs.Stuck.{GetsStuck}
use Rattle.lrc_orders.specs.Traps.{NeverTraps, NodeTraps}

-- in no order a race ends before this position
abbrev pub NeverRacesBefore : Program → (nodes position : ℕ) → Type 0
NeverRacesBefore program nodes position =
    (order : List ℕ) (run : List Act) (i j : ℕ) → plain program nodes order ≡ Some run → Races run i j → position ≤ j

-- an order that gives the plain machine a run whose last act races with the one before
pub record EndsInRace (program : Program) (nodes : ℕ) (order : List ℕ) : Type 0 where
  pub run : List Act
  pub is : plain program nodes order ≡ Some run
  pub first : ℕ
  pub last : first + 2 ≡ length run
  pub races : Races run first (first + 1)

-- no order leads to where the program is stuck
abbrev pub NeverStuck : Program → ℕ → Type 0
NeverStuck program nodes = (order : List ℕ) → ¬ GetsStuck program nodes order

-- after the order given the program is stuck, or it is after no order
abbrev pub TellsStuck : Program → (nodes : ℕ) → Option (List ℕ) → Type 0
TellsStuck program nodes None = NeverStuck program nodes
TellsStuck program nodes (Some order) = GetsStuck program nodes order

-- in the order given a node traps, or in no order one does
abbrev pub TellsTrap : Program → (nodes : ℕ) → Option (List ℕ) → Type 0
TellsTrap program nodes None = NeverTraps program nodes
TellsTrap program nodes (Some order) = NodeTraps program nodes order

-- what is found of the orders is so
pub record AreFindings (program : Program) (nodes : ℕ) (findings : Findings) : Type 0 where
  pub stuck : TellsStuck program nodes (option_map (λ order. order.items) findings.stuck)
  pub trap : TellsTrap program nodes (option_map (λ order. order.items) findings.trap)

-- the answer is that no order races
abbrev pub FindsNoRace : Verdict → Type 0
FindsNoRace (RaceFree findings) = Unit {0}
FindsNoRace (Racy order) = ⊥
