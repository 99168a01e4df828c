-- The pairs of accesses that race, of a part of a run.
use Rattle.std.specs.Prelude.{◌≡◌, ℕ, ◌<◌, ◌≤◌, ◌↔◌, List, Contains, max, min}
use Rattle.std.specs.List.Sorted.{IsStrictlySortedBy}
use Rattle.lrc_trace.specs.declared.act.Act.{Act}
use Rattle.lrc_judge.specs.declared.lanes.Pair.{Pair}
use Rattle.lrc_judge.specs.Pairs.{pair_cmp}
use Rattle.lrc_why.specs.Positions.{IsLeastRacing}
use Rattle.lrc_step.specs.declared.shown.Part.{Part}

-- the act at the position is shown
abbrev pub IsShown : Part → ℕ → Type 0
IsShown part position = (part.from ≤ position) × (position < part.until)

-- the pair is an act and the least act of the node that races with it, which is shown
pub record StandsForNode (run : List Act) (part : Part) (position node : ℕ) (pair : Pair) : Type 0 where
  pub least : ℕ
  pub is_least : IsLeastRacing run node position least
  pub least_shown : IsShown part least
  pub earlier_is : pair.earlier ≡ min position least
  pub later_is : pair.later ≡ max position least

-- The pair stands for an act that is shown and some other node: both of its acts are shown, and one of them is the least act of its node that
-- races with the other.
pub record StandsFor (run : List Act) (part : Part) (pair : Pair) : Type 0 where
  pub position : ℕ
  pub shown : IsShown part position
  pub node : ℕ
  pub of_node : StandsForNode run part position node pair

-- the list has exactly these pairs, by the later act, then by the earlier, each once
pub record AreShownPairs (run : List Act) (part : Part) (pairs : List Pair) : Type 0 where
  pub ascending : IsStrictlySortedBy pair_cmp pairs
  pub exact : (pair : Pair) → Contains pairs pair ↔ StandsFor run part pair
