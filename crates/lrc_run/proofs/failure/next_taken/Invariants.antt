use Rattle.std.proofs.Common.{◌≡◌, drop}
use Rattle.std.specs.Prelude.{count_by, filter_map, slice_get}
use Rattle.lrc_weave.specs.Matched.{place_taken}
use Rattle.lrc_run.specs.Unfinished.{is_take}
use Rattle.lrc_run.proofs.failure.next_taken.Given as goal

-- as many of the takes behind are passed by as the log still has
abbrev pub invariant-loop-wire : goal.invariant-loop-wire
invariant-loop-wire l =
    slice_get (filter_map place_taken l.history) (count_by is_take l.log)
    ≡ slice_get (filter_map place_taken (drop l.wire-index l.history)) l.left
