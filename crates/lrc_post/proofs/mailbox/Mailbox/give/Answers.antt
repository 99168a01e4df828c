use Rattle.std.proofs.Common.{◌≡◌, ◌∙◌, subst, rules}
use Rattle.std.specs.Prelude.{Some, slice_get}
use Rattle.lrc_post.proofs.Histories.{kept_take_as, next_is_put, is_take}
use Rattle.lrc_post.specs.Wires.{given_next, IsPutOf}
use Rattle.lrc_post.proofs.mailbox.Mailbox.give.Goals as goal

pub parcel_at-requires : goal.parcel_at-requires
parcel_at-requires c =
    let next : given_next c.self.inside.picker c.self.inside.flight.items ≡ Some c.in-Some.place = search rules in
    let there = next_is_put c.self.inside.owner c.self.inside.picker c.self.inside.history.items c.self.inside.flight.items
    c.in-Some.place c.self.invariant next in
    (c.self.inside.owner, rw c.deref.ensures.value (rw c.reserve.ensures.items there))

pub invariant_of-self-2 : goal.invariant_of-self-2
invariant_of-self-2 c =
    let next : given_next c.self.inside.picker c.self.inside.flight.items ≡ Some c.in-Some.place = search rules in
    kept_take_as c.self.inside.owner c.self.inside.picker c.self.inside.history.items _ c.self.inside.flight.items _
    c.in-Some.place c.self.invariant next (search rules) (search rules)

pub returns-clause-ok : goal.returns-clause-ok
returns-clause-ok c =
    let next : given_next c.self.inside.picker c.self.inside.flight.items ≡ Some c.in-Some.place = search rules in
    let put : IsPutOf (slice_get c.self.inside.history.items c.in-Some.place) c.in_ok-parcel.parcel =
    subst (λ h. IsPutOf (slice_get h c.in-Some.place) c.in_ok-parcel.parcel) (c.deref.ensures.value ∙ c.reserve.ensures.items) c.in_ok-parcel.ensures in
    is_take c.self.inside.owner c.self.inside.picker c.self.inside.closed c.self.inside.history.items _ c.self.inside.flight.items
    c.in-Some.place c.in_ok-parcel.parcel c.args.self.now c.self.view_is c.if-self.false c.self.invariant next put (search rules)
