use Rattle.std.proofs.Common.{arith}
use Rattle.lrc_graph.proofs.Adding.{adds_as, contains_at}
use Rattle.lrc_graph.proofs.reached.Reached.add_all.Goals as goal

pub add-requires-clause-within : goal.add-requires-clause-within
add-requires-clause-within c =
    let size = c.loop-place.invariant.1.size in
    let within = c.requires.within _ (contains_at c.args.places.now c.loop-place.place-index c.loop-place-test.true) in
    omega (arith, size, within)

pub returns-clause-adds : goal.returns-clause-adds
returns-clause-adds c =
    adds_as c.args.self.now c.loop-place.self c.args.places.now c.loop-place.place-index c.loop-place-test.false c.loop-place.invariant.1
