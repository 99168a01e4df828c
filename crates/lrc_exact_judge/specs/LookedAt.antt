-- How far acts are looked at.
use Rattle.std.specs.Prelude.{◌≡◌, ℕ, ◌<◌, ◌≤◌, ◌⊎◌, false, List, length, take}
use Rattle.lrc_trace.specs.declared.act.Act.{Act}
use Rattle.lrc_trace.specs.declared.act.Deed.{Deed}
use Rattle.lrc_trace.specs.Run.{Does, is_depart, arrives_before, departs_before}
use Rattle.lrc_trace.specs.Synchronization.{IsWellSynchronized, WaitsAtBarriers}
use Rattle.lrc_judge.specs.Synchronization.{Breaks}

-- a node acts at the position, though it arrived and has not departed since
pub record IsBetween (run : List Act) (j : ℕ) : Type 0 where
  pub node : ℕ
  pub deed : Deed
  pub does : Does run j node deed
  pub other : is_depart deed ≡ false
  pub waits : departs_before run node j < arrives_before run node j

-- the least position at which one does
pub record IsFirstBetween (run : List Act) (p : ℕ) : Type 0 where
  pub between : IsBetween run p
  pub earlier : (j : ℕ) → j < p → ¬ IsBetween run j

-- The first so many acts are well synchronized and no node acts between an arrive and its next depart, and the next act, if there is one, breaks
-- one of the two.
pub record IsLookedAt (nodes : ℕ) (run : List Act) (n : ℕ) : Type 0 where
  pub within : n ≤ length run
  pub synchronized : IsWellSynchronized nodes (take n run)
  pub waits : WaitsAtBarriers (take n run)
  pub all : (n ≡ length run) ⊎ (Breaks nodes run n ⊎ IsBetween run n)
