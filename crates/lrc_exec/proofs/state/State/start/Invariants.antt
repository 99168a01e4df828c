-- The nodes so far stand at the beginning.
use Rattle.std.proofs.Common.{◌≡◌, ◌≤◌, Some, false, length}
use Rattle.std.specs.Prelude.{All, map}
use Rattle.std.specs.List.{range_with_len}
use Rattle.lrc_exec.specs.Spots.{spot_thread}
use Rattle.lrc_exec.specs.States.{thread_begun}
use Rattle.lrc_exec.proofs.state.State.start.Given as goal

abbrev pub invariant-loop-me : goal.invariant-loop-me
invariant-loop-me l =
    (map (spot_thread l.flat) l.spots.items ≡ map (λ me. Some (thread_begun l.flat l.place me)) (range_with_len 0 l.me))
    × All (λ spot. spot.place ≤ length l.flat.code.now) l.spots.items × All (λ spot. spot.stopped ≡ false) l.spots.items
    × All (λ spot. spot.place ≡ l.place) l.spots.items
