use Rattle.std.proofs.Common.{◌≡◌, ◌∙◌, sym, ap, rules}
use Rattle.lrc_post.proofs.Histories.{kept_put_as}
use Rattle.lrc_post.specs.Mailbox.{MailboxRecord}
use Rattle.lrc_post.proofs.mailbox.Mailbox.put.Goals as goal

pub invariant_of-self-2 : goal.invariant_of-self-2
invariant_of-self-2 c =
    let owner : c.args.parcel.to ≡ c.self.inside.owner = c.requires ∙ sym (ap (λ (m : MailboxRecord). m.owner) c.self.view_is) in
    kept_put_as c.self.inside.owner c.self.inside.picker c.self.inside.history.items _ c.self.inside.flight.items _
    c.args.from c.args.parcel c.self.invariant owner (search rules) (search rules)
