use Rattle.std.proofs.Common.{sym, ap, set, get_or}
use Rattle.lrc_page.proofs.ChangeLists.{change, applied-nil, applied-more}
use Rattle.lrc_page.proofs.changes.Changes.apply_to_words.Goals as goal

pub loop-change-init : goal.loop-change-init
loop-change-init c = sym (applied-nil c.args.page.now)

pub loop-change-preserved : goal.loop-change-preserved
loop-change-preserved c =
    let items = c.as_slice-change-items.result.now in
    let at = c.loop-change.change-index in
    applied-more c.args.page.now c.loop-change.page _ items at (change 0 0) c.loop-change-test.true c.loop-change.invariant
    (ap (λ place. set c.loop-change.page place (get_or items at (change 0 0)).value) c.from.ensures)
