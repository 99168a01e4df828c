use Rattle.std.proofs.Common.{arith}
use Rattle.std.specs.Prelude.{◌+◌, ◌-◌, ◌/◌}
use Rattle.lrc_trace.proofs.TouchedPages.{below_at, above_at}
use Rattle.lrc_trace.proofs.touched.place_of.Goals as goal

pub loop-low-preserved-then-pages-middle : goal.loop-low-preserved-then-pages-middle
loop-low-preserved-then-pages-middle c =
    let middle = c.loop-low.low + (c.loop-low.high - c.loop-low.low) / 2 in
    record {
      ordered = omega arith;
      within = omega arith;
      before = below_at c.args.pages.now c.requires c.index-pages-middle.result middle c.args.page (omega arith) c.if-pages-middle.true;
      after = c.loop-low.invariant.after;
    }

pub loop-low-preserved : goal.loop-low-preserved
loop-low-preserved c =
    let middle = c.loop-low.low + (c.loop-low.high - c.loop-low.low) / 2 in
    record {
      ordered = omega arith;
      within = omega arith;
      before = c.loop-low.invariant.before;
      after = above_at c.args.pages.now c.requires c.index-pages-middle.result middle c.args.page c.if-pages-middle.false;
    }
