use Rattle.std.proofs.Common.{sym, subst, arith}
use Rattle.lrc_orders_reach.specs.Standing.{HasSome}
use Rattle.lrc_orders_reach.proofs.Coming.{has_covered}
use Rattle.lrc_orders_reach.proofs.follow.has.Goals as goal

pub returns-then-covers : goal.returns-then-covers
returns-then-covers c = λ e.
    subst (HasSome c.args.all.now) (sym c.in-Some.is)
    (has_covered c.args.all.now c.loop-index.index _ c.in-Some.standing (omega (arith, c.loop-index-test.true)) (c.covers.ensures c.if-covers.true))
