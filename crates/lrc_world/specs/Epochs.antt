-- The epochs of the segments of traces.
use Rattle.std.specs.Prelude.{◌≡◌, ℕ, List}
use Rattle.lrc_trace.specs.declared.act.Act.{Act}
use Rattle.lrc_trace.specs.declared.trace.Segment.{Segment}
use Rattle.lrc_trace.specs.Interval.{interval_at}
use Rattle.lrc_trace.specs.Run.{departs_before}

-- a segment is of the interval of a node's access at a position, and its epoch is the number of the node's departs before that
pub record IsOfAccess (acts : List Act) (node position : ℕ) (segment : Segment) : Type 0 where
  pub interval : segment.interval ≡ interval_at acts node position
  pub epoch : segment.epoch ≡ departs_before acts node position
