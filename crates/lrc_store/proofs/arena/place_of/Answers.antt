use Rattle.std.proofs.Common.{rules, of_calls, ◌≡◌, ◌∙◌, length, get_or, ltb, true, false, sym, arith}
use Rattle.std.proofs.lemmas.Bool.{ltb-true, ltb-false}
use Rattle.std.proofs.lemmas.Fn.{always_returns_same}
use Rattle.std.specs.List.{AllWithin}
use Rattle.lrc_store.proofs.PagePlaces.{page_place-some, page_place-parted, parts}
use Rattle.lrc_store.proofs.arena.place_of.Goals as goal
use Rattle.lrc_store.proofs.arena.place_of.Goals.{After-partition_point-place}

point : (c : After-partition_point-place)
    → AllWithin (λ n. ltb n c.args.page ≡ true) c.args.pages.now 0 c.partition_point-place.result
    × AllWithin (λ n. ltb n c.args.page ≡ false) c.args.pages.now c.partition_point-place.result (length c.args.pages.now)
point c =
    c.partition_point-place.ensures.partitioned (λ n. ltb n c.args.page) (always_returns_same _ _ _ (λ a r f k. search (rules, of_calls)))
    (λ i j d less within low. parts c.args.pages.now c.args.page c.requires i j d less within low)

pub returns-in_err-named : goal.returns-in_err-named
returns-in_err-named c =
    let p = point (goal.at.returns-in_err-named c).After-partition_point-place in
    let place = c.partition_point-place.result in
    c.from_residual.ensures
    ∙ sym (page_place-parted c.args.pages.now c.args.page c.requires place 0
    (λ k less. ltb-true _ _ (p.0 k 0 (omega arith) less))
    (λ within. absurd (omega (arith, within, c.in_err-named.ensures.lookup.3))))

pub returns-then-named-page : goal.returns-then-named-page
returns-then-named-page c =
    sym (page_place-some c.args.pages.now c.args.page c.requires c.partition_point-place.result c.in_ok-named.named.now
    (ltb-true _ _ (sym c.in_ok-named.ensures.lookup.0))
    (sym c.in_ok-named.ensures.lookup.1 ∙ c.if-named-page.true))

pub returns-else-named-page : goal.returns-else-named-page
returns-else-named-page c =
    let p = point (goal.at.returns-else-named-page c).After-partition_point-place in
    let place = c.partition_point-place.result in
    sym (page_place-parted c.args.pages.now c.args.page c.requires place c.in_ok-named.named.now
    (λ k less. ltb-true _ _ (p.0 k c.in_ok-named.named.now (omega arith) less))
    (λ within.
    let here : c.in_ok-named.named.now ≡ get_or c.args.pages.now place c.in_ok-named.named.now = c.in_ok-named.ensures.lookup.1 in
    let at_least = ltb-false _ _ (p.1 place c.in_ok-named.named.now (omega arith) within) in
    omega (arith, here, at_least, c.if-named-page.false)))
