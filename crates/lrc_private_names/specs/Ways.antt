-- A node on its way through flat code.
use Rattle.std.specs.Prelude.{◌≡◌, ◌≤◌, ℕ, List, Option, Some, None, if◌then◌else◌, length, slice_set}
use Rattle.lrc_program.specs.declared.Program.{Program}
use Rattle.lrc_trace.specs.declared.act.Act.{Act}
use Rattle.lrc_trace.specs.declared.act.Deed.{Deed}
use Rattle.lrc_exec.specs.Ask.{answered}
use Rattle.lrc_exec.specs.Meaning.{Thread}
use Rattle.lrc_exec.specs.Spots.{thread_at, IsFlat}
use Rattle.lrc_lines.specs.Walks.{value_given}
use Rattle.lrc_private_names.specs.declared.way.Way.{Way}
use Rattle.lrc_private_names.specs.Standing.{AreLastSets, passes, thread_before}

-- the thread that stands there
abbrev pub thread_of : Way → Thread
thread_of way = thread_at way.flat way.spot

-- the code is sound, the place is one of it, and there are 32 names
pub record IsOnWay (way : Way) : Type 0 where
  pub sound : IsFlat way.flat
  pub within : way.spot.place ≤ length way.flat.code.now
  pub long : length way.set.items ≡ 32

-- the thread once it has done this deed
abbrev pub thread_led : Thread → Deed → Thread
thread_led thread deed = if passes thread deed then answered (value_given deed) thread else thread

-- for each name the act that set it last, once the act at this position has set this one
abbrev pub noted : (at : ℕ) → Option ℕ → List (Option ℕ) → List (Option ℕ)
noted at None lasts = lasts
noted at (Some name) lasts = slice_set lasts name (Some at)

-- the way is that of a node up to a position of a run
pub record IsWayTo (program : Program) (nodes : ℕ) (lines : List ℕ) (acts : List Act) (node position : ℕ) (way : Way) : Type 0 where
  pub on : IsOnWay way
  pub thread : thread_of way ≡ thread_before program nodes lines acts node position
  pub lasts : AreLastSets program nodes lines acts node position way.set.items
