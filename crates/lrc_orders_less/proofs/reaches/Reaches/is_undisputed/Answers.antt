use Rattle.std.proofs.Common.{arith, below_more}
use Rattle.lrc_orders.specs.declared.noted.Noted.{Noted}
use Rattle.lrc_orders_table.specs.Tables.{IsRowOf}
use Rattle.lrc_orders_less.specs.Reaches.{StaysClear}
use Rattle.lrc_orders_less.proofs.Clear.{clear_state}
use Rattle.lrc_orders_less.proofs.reaches.Reaches.is_undisputed.Goals as goal

pub loop-other-preserved : goal.loop-other-preserved
loop-other-preserved c =
    let means = c.args.means.now in
    let table = c.args.table.now in
    let row = c.args.row.now in
    record {
      reaches = c.in_ok-clear.ensures.reaches;
      clear = below_more (λ k. (key : Noted) → IsRowOf means table row key → StaysClear means.flat key.state c.args.node k) c.loop-other.other
          c.loop-other.invariant.clear (c.in_ok-clear.ensures.clear c.if-not-clear.false);
    }

pub returns-clause-undisputed : goal.returns-clause-undisputed
returns-clause-undisputed c = λ e key of.
    let count = of.stands.threads.count in
    clear_state c.args.means.now.flat key.state c.args.node (omega (arith, c.requires.node, count))
    (λ k lt. c.loop-other.invariant.clear k (omega (arith, lt, count, c.loop-other-test.false)) key of)
