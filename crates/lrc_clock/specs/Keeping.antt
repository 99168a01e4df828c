-- Timed runs that keep time: a local rule, position by position.
use Rattle.std.specs.Prelude.{◌≡◌, ℕ, ◌<◌, Bool, true, false, List, length}
use Rattle.lrc_trace.specs.declared.act.Act.{Act}
use Rattle.lrc_trace.specs.declared.act.Deed.{Deed}
use Rattle.lrc_trace.specs.declared.act.Deed.TheVariants.{Acquire, Release, Arrive, Depart}
use Rattle.lrc_trace.specs.Run.{Does, departs_before}
use Rattle.lrc_time.specs.Time.{joined}
use Rattle.lrc_clock.specs.Times.{time_at, time_before, stamp_at, released_time, arrived_time}

-- whether a deed leaves its node's time as it is
abbrev pub leaves_time : Deed → Bool
leaves_time (Acquire l) = false
leaves_time (Release l) = false
leaves_time Arrive = false
leaves_time Depart = false
leaves_time _ = true

-- The times are those of the run's positions, for so many nodes: that of the acting node just after each act. With the
-- node's time before the act,
pub record KeepsTime (nodes : ℕ) (run : List Act) (times : List (List ℕ)) : Type 0 where
  pub timed : length times ≡ length run
  pub in_range : (j node : ℕ) (deed : Deed) → Does run j node deed → node < nodes
  -- an act that synchronizes nothing leaves the time as it is;
  pub others : (j node : ℕ) (deed : Deed) → Does run j node deed → leaves_time deed ≡ true
      → time_at times j ≡ time_before nodes run times node j
  -- a release and an arrive close an interval: they raise the node's own entry;
  pub release : (j node l : ℕ) → Does run j node (Release l) → time_at times j ≡ stamp_at nodes run times node j
  pub arrive : (j node : ℕ) → Does run j node Arrive → time_at times j ≡ stamp_at nodes run times node j
  -- an acquire does so too, and learns what the lock's last release knew;
  pub acquire : (j node l : ℕ) → Does run j node (Acquire l)
      → time_at times j ≡ joined (stamp_at nodes run times node j) (released_time nodes run times l j)
  -- a depart learns what every node knew at its arrive with the number of this depart.
  pub depart : (j node : ℕ) → Does run j node Depart
      → time_at times j
      ≡ joined (time_before nodes run times node j) (arrived_time nodes run times (departs_before run node j) j)

-- the time that the rule gives to a node's next act, at the end of the run
abbrev pub next_act_time : ℕ → List Act → List (List ℕ) → ℕ → Deed → List ℕ
next_act_time nodes run times node (Acquire l) =
    joined (stamp_at nodes run times node (length run)) (released_time nodes run times l (length run))
next_act_time nodes run times node (Release l) = stamp_at nodes run times node (length run)
next_act_time nodes run times node Arrive = stamp_at nodes run times node (length run)
next_act_time nodes run times node Depart =
    joined (time_before nodes run times node (length run))
    (arrived_time nodes run times (departs_before run node (length run)) (length run))
next_act_time nodes run times node _ = time_before nodes run times node (length run)
