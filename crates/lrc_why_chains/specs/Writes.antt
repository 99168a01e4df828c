-- The writes to a word that are known at a position, and which of them race.
use Rattle.std.specs.Prelude.{ℕ, ◌<◌, ◌≤◌, ◌↔◌, List, Contains}
use Rattle.std.specs.List.Sorted.{IsStrictlyIncreasing}
use Rattle.lrc_trace.specs.declared.act.Act.{Act}
use Rattle.lrc_trace.specs.declared.act.Deed.TheVariants.{Write}
use Rattle.lrc_trace.specs.Run.{IsDone}
use Rattle.lrc_trace.specs.Order.{HappensBefore}
use Rattle.lrc_trace.specs.Conflict.{Races}
use Rattle.lrc_trace.specs.Reading.{WrittenBefore}

-- the list has exactly the positions of which this is so, ascending
pub record AreExactly (IsSo : ℕ → Type 0) (positions : List ℕ) : Type 0 where
  pub ascending : IsStrictlyIncreasing positions
  pub exact : (i : ℕ) → Contains positions i ↔ IsSo i

-- some node writes the word at i
abbrev pub IsWrite : List Act → ℕ → ℕ → Type 0
IsWrite run word i = (value : ℕ) × IsDone run i (Write word value)

-- the word is written at i, and that is known at the position: it happens before it
abbrev pub IsKnownWrite : List Act → ℕ → ℕ → ℕ → Type 0
IsKnownWrite run position word i = (value : ℕ) × WrittenBefore run position word i value

-- the last write that is known
pub record IsLastKnownWrite (run : List Act) (position word i : ℕ) : Type 0 where
  pub known : IsKnownWrite run position word i
  pub last : (k : ℕ) → IsKnownWrite run position word k → k ≤ i

-- two writes that are known, and race
pub record IsCrossing (run : List Act) (position word i j : ℕ) : Type 0 where
  pub earlier : IsKnownWrite run position word i
  pub later : IsKnownWrite run position word j
  pub races : Races run i j

-- of these the two with the least later one, and of those with it the least earlier one
pub record IsFirstCrossing (run : List Act) (position word i j : ℕ) : Type 0 where
  pub crossing : IsCrossing run position word i j
  pub least_later : (k l : ℕ) → IsCrossing run position word k l → j ≤ l
  pub least_earlier : (k : ℕ) → IsCrossing run position word k j → i ≤ k

-- a write that is known, and happens before no other one that is
pub record IsUnfollowed (run : List Act) (position word i : ℕ) : Type 0 where
  pub known : IsKnownWrite run position word i
  pub last : (k : ℕ) → IsKnownWrite run position word k → ¬ HappensBefore run i k

-- the last write to the word before the position in the run, where it is not known there
pub record IsLastUnknownWrite (run : List Act) (position word i : ℕ) : Type 0 where
  pub write : IsWrite run word i
  pub earlier : i < position
  pub last : (k : ℕ) → IsWrite run word k → k < position → k ≤ i
  pub unknown : ¬ HappensBefore run i position
