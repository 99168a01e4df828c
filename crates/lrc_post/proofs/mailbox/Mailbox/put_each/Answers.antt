use Rattle.std.proofs.Common.{◌∙◌, ◌++◌, ◌∷◌, [], sym, ap, rules}
use Rattle.lrc_post.specs.Mailbox.{MailboxRecord}
use Rattle.lrc_post.proofs.Puts.{for_owner, one_more, puts_more}
use Rattle.lrc_post.proofs.mailbox.Mailbox.put_each.Goals as goal

pub put-requires : goal.put-requires
put-requires c =
    for_owner c.args.self.now.owner c.args.parcels.items c.loop-parcel.invariant.0 c.loop-parcel.parcels.items
    c.pop.new.self.items c.in-Some.parcel c.requires c.loop-parcel.invariant.1 c.in-Some.ensures.items
    ∙ sym (ap (λ (m : MailboxRecord). m.owner) c.loop-parcel.invariant.2)

pub loop-parcel-preserved : goal.loop-parcel-preserved
loop-parcel-preserved c = (
  c.loop-parcel.invariant.0 ++ c.in-Some.parcel ∷ [],
  one_more c.args.parcels.items c.loop-parcel.invariant.0 c.loop-parcel.parcels.items
      c.pop.new.self.items c.in-Some.parcel c.loop-parcel.invariant.1 c.in-Some.ensures.items,
  puts_more c.args.self.now c.loop-parcel.self c.put.new.self c.args.from c.loop-parcel.invariant.0 c.in-Some.parcel
      c.loop-parcel.invariant.2 (search rules),
)
