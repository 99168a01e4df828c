use Rattle.lrc_post.proofs.Histories.{kept_new}
use Rattle.lrc_post.proofs.mailbox.Mailbox.empty.Goals as goal

pub invariant_of-result : goal.invariant_of-result
invariant_of-result c = rw c.new.ensures.items (rw c.new-2.ensures.items (kept_new c.args.owner c.args.picker))
