use Rattle.std.proofs.Common.{subst}
use Rattle.lrc_ranges.specs.Ranges.{IsMet}
use Rattle.lrc_ranges.proofs.Products.{factors}
use Rattle.lrc_ranges.proofs.narrow.+narrow.Goals as goal

pub narrow_compared-returns-in-Some : goal.narrow_compared-returns-in-Some
narrow_compared-returns-in-Some t c = λ privates a b are left right relates.
    let x = c.range_of-x.ensures privates a are left in
    let y = c.range_of-y.ensures privates b are right in
    let one = c.set_name.ensures privates a are left (c.bounded.ensures a b x y relates) in
    let two = c.set_name-2.ensures privates b one right (c.bounded-2.ensures b a y x (c.turned.ensures a b relates)) in
    c.narrow.ensures privates a two left (c.in-Some.ensures a b y relates)

pub narrow_compared-returns-in_default : goal.narrow_compared-returns-in_default
narrow_compared-returns-in_default t c = λ privates a b are left right relates.
    let x = c.range_of-x.ensures privates a are left in
    let y = c.range_of-y.ensures privates b are right in
    let one = c.set_name.ensures privates a are left (c.bounded.ensures a b x y relates) in
    c.set_name-2.ensures privates b one right (c.bounded-2.ensures b a y x (c.turned.ensures a b relates))

pub narrow_sides-returns-in-Some : goal.narrow_sides-returns-in-Some
narrow_sides-returns-in-Some t c = λ privates a b value are left right gives met.
    c.narrow_compared.ensures privates a b are left right (c.in-Some.ensures a b value gives met)

pub narrow_sides-returns-then-is_product : goal.narrow_sides-returns-then-is_product
narrow_sides-returns-then-is_product t c = λ privates a b value are left right gives met.
    let f = factors c.args.operator a b value (c.is_product.ensures.0 c.if-is_product.true) gives (subst (λ h. IsMet h value) c.if-holds.true met) in
    let one = c.narrow.ensures privates a are left f.0 in
    c.narrow-then-is_product.ensures privates b one right f.1
