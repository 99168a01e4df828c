use Rattle.std.proofs.Common.{◌≡◌, length, arith}
use Rattle.lrc_orders_reach.proofs.Coming.{part_of}
use Rattle.lrc_orders_reach.proofs.Values.{one_more_within}
use Rattle.lrc_orders_reach.proofs.standing.Standing.covers.Goals as goal

pub loop-name-preserved : goal.loop-name-preserved
loop-name-preserved c =
    one_more_within c.loop-name.name c.args.other.now.names c.args.self.now.names _ _ c.loop-name.invariant (c.covers.ensures c.if-not-covers.false)

pub returns : goal.returns
returns c = λ e.
    let inner = c.args.other.now in
    let outer = c.args.self.now in
    let many : length outer.names ≡ 32 = omega arith in
    let even : length inner.names ≡ length outer.names = omega arith in
    part_of inner outer c.if-self-other.false even
    (λ k x y lt. c.loop-name.invariant k x y (omega (arith, lt, many, c.loop-name-test.false)))
