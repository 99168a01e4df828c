use Rattle.std.proofs.Common.{◌≡◌, length, take}
use Rattle.lrc_barrier.specs.Barrier.{joined_time}
use Rattle.lrc_barrier.specs.Filled.{all_with}
use Rattle.lrc_barrier.proofs.departing.time_of_all.Given as goal

abbrev pub invariant-loop-place : goal.invariant-loop-place
invariant-loop-place l = record {
  all : l.time ≡ joined_time (length l.kept) (all_with l.last (take l.place-index l.kept));
  counted : length l.time ≡ length l.kept;
}
