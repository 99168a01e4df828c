use Rattle.std.proofs.Common.{◌≡◌, length, arith}
use Rattle.lrc_orders_reach.proofs.Coming.{stands_with}
use Rattle.lrc_orders_reach.proofs.standing.Standing.of.Goals as goal

pub returns : goal.returns
returns c = λ flat.
    let spot = c.args.spot.now in
    let values : length spot.privates ≡ 32 = omega arith in
    stands_with flat spot c.loop-name.names values c.loop-name.invariant.size
    (λ k range lt. c.loop-name.invariant.are k range (omega (arith, lt, c.loop-name-test.false)))
