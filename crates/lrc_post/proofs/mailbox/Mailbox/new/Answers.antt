use Rattle.lrc_post.proofs.Histories.{kept_new}
use Rattle.lrc_post.proofs.mailbox.Mailbox.new.Goals as goal

pub invariant_of-result : goal.invariant_of-result
invariant_of-result c =
    rw c.in_ok-with_capacity.ensures.items (rw c.new.ensures.items (kept_new c.args.owner c.args.picker))
