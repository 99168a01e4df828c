use Rattle.std.proofs.Common.{◌≡◌}
use Rattle.lrc_weave.proofs.Comparing.{TakenSo}
use Rattle.lrc_weave.proofs.takes.are_takes.Given as goal

abbrev pub invariant-loop-entry : goal.invariant-loop-entry
invariant-loop-entry l = (l.left.history.now ≡ l.history) × TakenSo l.history l.log l.entry-index l.before l.left.rest.now
