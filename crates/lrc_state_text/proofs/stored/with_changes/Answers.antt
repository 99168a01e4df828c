use Rattle.std.proofs.Common.{refl}
use Rattle.lrc_state_text.specs.Intervals.{page_changes}
use Rattle.lrc_state_text.proofs.Lists.{found_next}
use Rattle.lrc_state_text.proofs.stored.with_changes.Goals as goal

pub loop-page-preserved : goal.loop-page-preserved
loop-page-preserved c =
    found_next (page_changes c.args.memory.now.memory c.args.interval) c.as_slice-page-items.result.now c.loop-page.page-index _ 0
    c.loop-page.changes.items c.put_changes.new.all.items c.loop-page-test.true refl c.loop-page.invariant c.in_ok-put_changes.ensures
