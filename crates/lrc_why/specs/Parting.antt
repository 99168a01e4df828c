-- Why two acts are not ordered: what the later one knows of the earlier one's node, and what is held at both.
use Rattle.std.specs.Prelude.{◌≡◌, ℕ, ◌<◌, List, Option, Some, MatchOption, max, min, slice_get}
use Rattle.lrc_trace.specs.declared.act.Act.{Act}
use Rattle.lrc_trace.specs.Order.{HappensBefore}
use Rattle.lrc_trace.specs.Run.{departs_before}
use Rattle.lrc_trace.specs.Synchronization.{Holds}
use Rattle.lrc_why_chains.specs.Known.{IsActOf, IsLastKnown}
use Rattle.lrc_why_chains.specs.Writes.{AreExactly}
use Rattle.lrc_why.specs.declared.reasons.Opponent.{Opponent}
use Rattle.lrc_why.specs.declared.reasons.Parting.{Parting as PartingRecord}
use Rattle.lrc_why.specs.declared.reasons.Standing.{Standing}
use Rattle.lrc_why.specs.Positions.{IsRacing}

-- nothing of the node is known at the position
abbrev pub IsUnknown : List Act → ℕ → ℕ → Type 0
IsUnknown run node position = (k : ℕ) → IsActOf run node k → ¬ HappensBefore run k position

-- the last act of the node that is known at the position, if there is one
abbrev pub IsLastKnownIfAny : List Act → ℕ → ℕ → Option ℕ → Type 0
IsLastKnownIfAny run node position known = MatchOption known (IsUnknown run node position) (IsLastKnown run node position)

-- these are the two positions, and what the later knows of the node that acts at the earlier
pub record IsParting (run : List Act) (earlier later : ℕ) (parting : PartingRecord) : Type 0 where
  pub earlier_is : parting.earlier ≡ earlier
  pub later_is : parting.later ≡ later
  pub known : (node : ℕ) → IsActOf run node earlier → IsLastKnownIfAny run node later parting.known

-- the locks that the node holds at the position, and how often it has departed before it
pub record IsStandingAt (run : List Act) (node position : ℕ) (standing : Standing) : Type 0 where
  pub locks : AreExactly (λ l. (l < 256) × Holds run position node l) standing.locks.items
  pub departs : standing.departs ≡ departs_before run node position

-- the same of the node that acts at the position
abbrev pub IsStanding : List Act → ℕ → Standing → Type 0
IsStanding run position standing = (node : ℕ) × IsActOf run node position × IsStandingAt run node position standing

-- The acts of a node that race with the act at the position, the first of them with it, and what is held at these two.
pub record IsOpponent (run : List Act) (node position : ℕ) (opponent : Opponent) : Type 0 where
  pub racing : AreExactly (IsRacing run node position) opponent.racing.items
  pub least : ℕ
  pub is_least : slice_get opponent.racing.items 0 ≡ Some least
  pub parting : IsParting run (min position least) (max position least) opponent.parting
  pub first : IsStanding run (min position least) opponent.first
  pub second : IsStanding run (max position least) opponent.second

-- the same where some act of the node races with it
abbrev pub IsOpponentIfAny : List Act → ℕ → ℕ → Option Opponent → Type 0
IsOpponentIfAny run node position found = MatchOption found ((k : ℕ) → ¬ IsRacing run node position k) (IsOpponent run node position)
