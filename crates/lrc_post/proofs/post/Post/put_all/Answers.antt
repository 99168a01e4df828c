use Rattle.std.proofs.Common.{◌<◌, ◌++◌, ◌∷◌, [], rules}
use Rattle.std.proofs.lemmas.List.Elements.{All-push}
use Rattle.lrc_post.specs.declared.parcel.Parcel.{Parcel}
use Rattle.lrc_post.proofs.Puts.{all_put, handed_back, one_more}
use Rattle.lrc_post.proofs.post.Post.put_all.Goals as goal

pub loop-parcel-preserved : goal.loop-parcel-preserved
loop-parcel-preserved g c = (
  c.loop-parcel.invariant.0 ++ c.in-Some.parcel ∷ [],
  one_more c.args.parcels.items c.loop-parcel.invariant.0 c.loop-parcel.parcels.items
      c.pop.new.self.items c.in-Some.parcel c.loop-parcel.invariant.1 c.in-Some.ensures.items,
  All-push (λ (p : Parcel). p.to < c.args.self.now.nodes) c.loop-parcel.invariant.0 c.in-Some.parcel c.loop-parcel.invariant.2
      (search rules),
)

pub returns-in-Err-clause-back : goal.returns-in-Err-clause-back
returns-in-Err-clause-back g c =
    handed_back c.args.self.now.nodes c.in-Err.fault c.args.parcels.items c.loop-parcel.invariant.0 c.loop-parcel.parcels.items
    c.pop.new.self.items c.push_reserved.new.self.items c.reverse-in-Err.new.self.items c.in-Some.parcel c.in-Err.refused
    c.loop-parcel.invariant.1 c.loop-parcel.invariant.2 c.in-Some.ensures.items c.in-Err.ensures.back c.push_reserved.ensures.items
    c.reverse-in-Err.ensures.items c.in-Err.ensures.nowhere

pub returns-clause-there : goal.returns-clause-there
returns-clause-there g c = all_put c.args.self.now.nodes c.args.parcels.items c.loop-parcel.invariant.0 c.loop-parcel.parcels.items
    c.loop-parcel.invariant.1 (search rules) c.loop-parcel.invariant.2
