use Rattle.lrc_page.proofs.PageLists.{below-page}
use Rattle.lrc_page.proofs.pages.place_of.Goals as goal

pub returns-else-list-place-clause-before : goal.returns-else-list-place-clause-before
returns-else-list-place-clause-before c =
    below-page c.args.list.now c.args.page c.loop-place.place c.requires.rising c.requires.other c.loop-place.invariant.within
    (λ some. c.if-list-place.false)
