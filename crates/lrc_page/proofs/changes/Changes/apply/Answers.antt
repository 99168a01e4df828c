use Rattle.std.proofs.Common.{◌≡◌, ◌∙◌, ap, sym, length, arith}
use Rattle.lrc_page.proofs.ChangeLists.{change, applied-nil, applied-more, length-applied-so_far}
use Rattle.lrc_page.proofs.changes.Changes.apply.Goals as goal

pub loop-change-init : goal.loop-change-init
loop-change-init c = sym (applied-nil c.args.page.now)

pub set-requires : goal.set-requires
set-requires c =
    let long = length-applied-so_far c.args.page.now c.loop-change.page c.as_slice-change-items.result.now c.loop-change.change-index c.loop-change.invariant in
    let below = c.requires c.loop-change.change-index (change 0 0) in
    let items : c.as_slice-change-items.result.now ≡ c.args.self.now = c.as_slice-change-items.ensures ∙ c.self.view_is in
    rw (long, items) (below (omega (arith, ap length items, c.loop-change-test.true)))

pub loop-change-preserved : goal.loop-change-preserved
loop-change-preserved c =
    applied-more c.args.page.now c.loop-change.page c.set.new.self c.as_slice-change-items.result.now c.loop-change.change-index (change 0 0)
    c.loop-change-test.true c.loop-change.invariant c.set.ensures
