use Rattle.std.proofs.Common.{arith, below_more}
use Rattle.lrc_orders_away.specs.Undisputed.{StaysAway}
use Rattle.lrc_orders_away.proofs.Coming.{undisputed_state}
use Rattle.lrc_orders_away.proofs.undisputed.is_undisputed.Goals as goal

pub loop-other-preserved : goal.loop-other-preserved
loop-other-preserved c =
    below_more (λ k. StaysAway c.args.flat.now c.args.state.now c.args.node c.args.deed k) c.loop-other.other c.loop-other.invariant
    (c.in_ok-away.ensures c.if-not-away.false)

pub returns : goal.returns
returns c = λ e. undisputed_state c.args.flat.now c.args.state.now c.args.node c.args.deed c.requires.node
    (λ k lt. c.loop-other.invariant k (omega (arith, lt, c.loop-other-test.false, c.len-other-end.ensures, c.args.state.now.spots.ok.0)))
