use Rattle.std.proofs.Common.{arith, subst}
use Rattle.std.proofs.lemmas.Option.{same_Some}
use Rattle.lrc_lazy_search.specs.Searching.{IsFirstInFront}
use Rattle.lrc_lazy_search.proofs.Making.{front_below}
use Rattle.lrc_lazy_search.proofs.state.LazyState.in_front.Goals as goal

pub returns-clause-none : goal.returns-clause-none
returns-clause-none c = λ is node front.
    let below = front_below c.args.flat.now c.args.self.now node c.requires.fit front in
    let count = c.requires.fit.valid.spots in
    c.loop-node.invariant node
    (omega (arith, below, count, c.loop-node-test.false, c.loop-node.auto.node-end, c.len-count.ensures)) front

pub returns-then-is_in_front-clause-first : goal.returns-then-is_in_front-clause-first
returns-then-is_in_front-clause-first c = λ node is.
    subst (IsFirstInFront c.args.flat.now c.args.self.now) (same_Some c.loop-node.node node is) c.loop-node.invariant
