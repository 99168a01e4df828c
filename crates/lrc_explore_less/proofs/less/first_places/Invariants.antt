-- The places so far.
use Rattle.lrc_explore_less.specs.Passing.{AreFirst}
use Rattle.lrc_explore_less.proofs.less.first_places.Given as goal

abbrev pub invariant-loop-place : goal.invariant-loop-place
invariant-loop-place l = AreFirst l.places.items l.place
