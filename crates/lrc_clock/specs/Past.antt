-- What the acts of a run leave for the times of the next.
use Rattle.std.specs.Prelude.{◌≡◌, ℕ, ◌<◌, ◌≤◌, IfSome, List, Option, None, length, slice_index, slice_index_or}
use Rattle.lrc_trace.specs.declared.act.Act.{Act}
use Rattle.lrc_trace.specs.Run.{arrives_before, departs_before}
use Rattle.lrc_time.specs.Time.{zeros}
use Rattle.lrc_clock.specs.Times.{time_before, released_time, arrived_time, time_or_zeros}
use Rattle.lrc_clock.specs.declared.past.Past.{Past}

-- the time is that at the position, or zeros where there is none
pub record IsTimeAt (nodes : ℕ) (times : List (List ℕ)) (position : Option ℕ) (time : List ℕ) : Type 0 where
  pub within : IfSome position (λ i. i < length times)
  pub is : time_or_zeros nodes times position ≡ time

-- Of these acts, which have these times, the past has
pub record IsTimedPast (nodes : ℕ) (run : List Act) (times : List (List ℕ)) (past : Past) : Type 0 where
  -- where the time of each node and that of each lock's last release stand,
  pub acted : (node : ℕ) → node < length past.acted
      → IsTimeAt nodes times (slice_index_or past.acted node None) (time_before nodes run times node (length run))
  pub released : (l : ℕ) → l < length past.released
      → IsTimeAt nodes times (slice_index_or past.released l None) (released_time nodes run times l (length run))
  -- the times of the barriers to which a node has come,
  pub arrived : (number : ℕ) → slice_index_or past.arrived.items number (zeros nodes) ≡ arrived_time nodes run times number (length run)
  pub kept : (node : ℕ) → arrives_before run node (length run) ≤ length past.arrived.items
  -- and how often each node has come and gone on.
  pub arrives : (node : ℕ) → node < length past.arrives → slice_index past.arrives node ≡ arrives_before run node (length run)
  pub departs : (node : ℕ) → node < length past.departs → slice_index past.departs node ≡ departs_before run node (length run)
