-- What the acts before a position leave of locks and barriers.
use Rattle.std.specs.Prelude.{◌≡◌, ℕ, ◌<◌, ◌↔◌, List, Some, None, length, slice_index, slice_index_or}
use Rattle.lrc_trace.specs.declared.act.Act.{Act}
use Rattle.lrc_trace.specs.Run.{arrives_before, departs_before}
use Rattle.lrc_trace.specs.Synchronization.{Holds}
use Rattle.lrc_judge.specs.declared.synchronization.Standing.{Standing}

-- the standing is that before position n of the run, up to which every lock has one holder at most
pub record IsStanding (run : List Act) (n : ℕ) (standing : Standing) : Type 0 where
  pub holder : (l node : ℕ) → l < length standing.holder → (slice_index_or standing.holder l None ≡ Some node) ↔ Holds run n node l
  pub arrives : (node : ℕ) → node < length standing.arrives → slice_index standing.arrives node ≡ arrives_before run node n
  pub departs : (node : ℕ) → node < length standing.departs → slice_index standing.departs node ≡ departs_before run node n
