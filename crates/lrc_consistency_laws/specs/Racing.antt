-- Races of a program, and of a run up to its first race.
use Rattle.std.specs.Prelude.{◌≡◌, ℕ, ◌+◌, Some, List, take}
use Rattle.lrc_program.specs.declared.Program.{Program}
use Rattle.lrc_trace.specs.declared.act.Act.{Act}
use Rattle.lrc_trace.specs.Conflict.{Races, IsRaceFree}
use Rattle.lrc_exec.specs.Plain.{plain}
use Rattle.lrc_exec.specs.Follows.{nodes_of_acts}
use Rattle.lrc_consistency_laws.specs.Kinds.{PlainUpTo}

-- no order gives the plain machine a run with a race
abbrev pub HasNoRace : Program → ℕ → Type 0
HasNoRace program nodes = (order : List ℕ) (run : List Act) → plain program nodes order ≡ Some run → IsRaceFree run

-- The plain machine makes the acts before the position, and then an act of the same kind as the one there; and that act races
-- with each position with which the one there does.
pub record PlainToRace (program : Program) (nodes : ℕ) (run : List Act) (position : ℕ) : Type 0 where
  pub upto : PlainUpTo program nodes run position
  pub races : (i : ℕ) (other : List Act) → Races run i position
      → plain program nodes (nodes_of_acts (take (position + 1) run)) ≡ Some other → Races other i position
