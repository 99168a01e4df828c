use Rattle.std.proofs.Common.{arith}
use Rattle.lrc_orders_away.proofs.Conflicting.{away_all}
use Rattle.lrc_orders_away.proofs.conflict.may_conflict.Goals as goal

pub returns : goal.returns
returns c = λ e.
    away_all c.args.follower.now c.args.all.now c.args.deed
    (λ k standing lt there. c.loop-standing.invariant k standing (omega (arith, lt, c.loop-standing-test.false)) there)
