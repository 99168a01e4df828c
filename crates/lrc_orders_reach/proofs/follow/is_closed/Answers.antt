use Rattle.std.proofs.Common.{arith}
use Rattle.lrc_orders_reach.proofs.Coming.{closed_all}
use Rattle.lrc_orders_reach.proofs.follow.is_closed.Goals as goal

pub returns : goal.returns
returns c = λ e. closed_all c.args.follower.now c.args.all.now
    (λ k standing lt there. c.loop-standing.invariant k standing (omega (arith, lt, c.loop-standing-test.false)) there)
