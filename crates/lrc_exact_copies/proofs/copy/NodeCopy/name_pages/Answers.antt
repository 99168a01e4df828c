use Rattle.std.proofs.Common.{[], take, take_all, get_or, refl, sym, subst, arith}
use Rattle.std.proofs.lemmas.List.{take_more}
use Rattle.lrc_exact_copies.specs.Copies.{CopyOf, with_all_pages}
use Rattle.lrc_exact_copies.proofs.Copying.{or-none, same-view}
use Rattle.lrc_exact_copies.proofs.Learned.{pages-more}
use Rattle.lrc_exact_copies.proofs.copy.NodeCopy.name_pages.Goals as goal

pub loop-page-init : goal.loop-page-init
loop-page-init c = λ shape node a k state old.
    same-view old (with_all_pages [] state) (λ w. refl) (λ w. refl) (λ p. refl) (λ p. or-none (state.stale p)) refl

pub loop-page-preserved : goal.loop-page-preserved
loop-page-preserved c = λ shape node a k state old.
    let pages = c.args.pages.now in
    let i = c.loop-page.page-index in
    subst (λ xs. CopyOf shape node a k c.name_page.new.self (with_all_pages xs state)) (sym (take_more pages i 0 c.loop-page-test.true))
    (pages-more (take i pages) (get_or pages i 0) state
    (c.in_ok-name_page.ensures shape node a k (with_all_pages (take i pages) state) (c.loop-page.invariant shape node a k state old)))

pub returns : goal.returns
returns c = λ shape node a k state old.
    subst (λ xs. CopyOf shape node a k c.loop-page.self (with_all_pages xs state)) (take_all c.loop-page.page-index c.args.pages.now (omega arith))
    (c.loop-page.invariant shape node a k state old)
