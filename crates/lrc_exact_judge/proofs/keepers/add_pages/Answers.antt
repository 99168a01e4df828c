use Rattle.std.proofs.Common.{take, take_all, get_or, sym, subst, arith}
use Rattle.std.proofs.lemmas.List.{take_more}
use Rattle.lrc_exact_copies.specs.Made.{has}
use Rattle.lrc_exact_judge.specs.Keepers.{AddsKeeper}
use Rattle.lrc_exact_judge.proofs.Keeping.{none-added, pages-more}
use Rattle.lrc_exact_judge.proofs.keepers.add_pages.Goals as goal

pub loop-page-init : goal.loop-page-init
loop-page-init c = none-added c.args.node c.args.keepers.now

pub loop-page-preserved : goal.loop-page-preserved
loop-page-preserved c =
    let pages = c.args.pages.now in
    let i = c.loop-page.page-index in
    subst (λ xs. AddsKeeper c.args.node (has xs) c.args.keepers.now c.add_page.new.keepers) (sym (take_more pages i 0 c.loop-page-test.true))
    (pages-more c.args.node (get_or pages i 0) (take i pages) c.args.keepers.now c.loop-page.keepers c.add_page.new.keepers
    c.loop-page.invariant c.in_ok-add_page.ensures)

pub returns : goal.returns
returns c =
    subst (λ xs. AddsKeeper c.args.node (has xs) c.args.keepers.now c.loop-page.keepers)
    (take_all c.loop-page.page-index c.args.pages.now (omega arith)) c.loop-page.invariant
