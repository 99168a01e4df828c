use Rattle.std.proofs.Common.{◌≡◌, rules}
use Rattle.lrc_post.proofs.Mailboxes.{wires_push, of_push}
use Rattle.lrc_post.proofs.post.Post.into_wires.Goals.{in-Some, in-None}
use Rattle.lrc_post.proofs.post.Post.into_wires.Goals as goal

pub loop-owner-preserved : goal.loop-owner-preserved
loop-owner-preserved c =
    let own : c.match-next.mailbox.owner ≡ c.loop-owner.owner = elim c.match-next.branch [ in-Some w ↦ search rules | in-None w ↦ search rules ] in
    let picker : c.match-next.mailbox.picker ≡ c.args.self.picker = elim c.match-next.branch [ in-Some w ↦ search rules | in-None w ↦ search rules ] in
    let more = wires_push c.loop-owner.owner c.loop-owner.mailboxes.items c.push_reserved.new.self.items c.match-next.mailbox (search rules)
    c.loop-owner.invariant.0 c.loop-owner.invariant.3 own c.history-history.ensures.legal c.history-history.ensures.taken in
    (more.0, search rules, search rules, more.1, of_push c.loop-owner.mailboxes.items c.push_reserved.new.self.items c.match-next.mailbox (search rules) c.loop-owner.invariant.4 picker)
