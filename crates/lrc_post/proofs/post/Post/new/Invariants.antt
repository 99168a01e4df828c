use Rattle.std.proofs.Common.{◌≡◌, length}
use Rattle.lrc_post.proofs.post.Post.new.Given as goal

abbrev pub invariant-loop-owner : goal.invariant-loop-owner
invariant-loop-owner l = length l.desks.items ≡ l.owner
