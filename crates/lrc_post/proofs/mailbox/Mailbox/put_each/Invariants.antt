use Rattle.std.proofs.Common.{◌≡◌, ◌++◌, List, length, reverse}
use Rattle.lrc_post.specs.declared.parcel.Parcel.{Parcel}
use Rattle.lrc_post.specs.Mailbox.{with_puts}
use Rattle.lrc_post.proofs.mailbox.Mailbox.put_each.Given as goal

abbrev pub invariant-loop-parcel : goal.invariant-loop-parcel
invariant-loop-parcel l =
    (put : List Parcel) × (l.fn.parcels.items ≡ put ++ reverse l.parcels.items) × (l.self ≡ with_puts l.fn.self l.from put)

abbrev pub decreases-loop-parcel : goal.decreases-loop-parcel
decreases-loop-parcel l = length l.parcels.items
