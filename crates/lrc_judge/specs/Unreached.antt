-- Accesses of a word that do not reach an act.
use Rattle.std.specs.Prelude.{◌≢◌, ℕ, ◌<◌, List, slice_index}
use Rattle.lrc_judge.specs.declared.reach.Reach.{Reach}

-- some node but this one has an access later than all of its positions that are reached by
pub record IsSomeUnreached (latest : List ℕ) (node : ℕ) (reach : Reach) : Type 0 where
  pub other : ℕ
  pub apart : other ≢ node
  pub later : slice_index reach.latest other < slice_index latest other
