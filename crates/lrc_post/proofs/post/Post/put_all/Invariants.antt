use Rattle.std.proofs.Common.{◌≡◌, ◌<◌, ◌++◌, List, All, length, reverse}
use Rattle.lrc_post.specs.declared.parcel.Parcel.{Parcel}
use Rattle.lrc_post.proofs.post.Post.put_all.Given as goal

abbrev pub invariant-loop-parcel : goal.invariant-loop-parcel
invariant-loop-parcel g l =
    (put : List Parcel) × (l.fn.parcels.items ≡ put ++ reverse l.parcels.items)
    × All (λ (p : Parcel). p.to < l.fn.self.nodes) put

abbrev pub decreases-loop-parcel : goal.decreases-loop-parcel
decreases-loop-parcel g l = length l.parcels.items
