use Rattle.std.proofs.Common.{◌<◌, length, arith, inl, inr, subst, sym}
use Rattle.std.proofs.lemmas.Bool.{cases_eq}
use Rattle.lrc_orders.proofs.Keeping.{grows_again}
use Rattle.lrc_lazy_search.proofs.Adding.{grows_long}
use Rattle.lrc_lazy_run.specs.Ways.{HasAllStepsAt}
use Rattle.lrc_lazy_run.proofs.Keeping.{can_at_below, step_on}
use Rattle.lrc_lazy_run.proofs.ways.Ways.add_all.Goals as goal

pub add_of-requires-clause-within : goal.add_of-requires-clause-within
add_of-requires-clause-within c = let long = grows_long c.loop-node.invariant.grows in omega (arith, long, c.requires.within)

pub loop-node-preserved : goal.loop-node-preserved
loop-node-preserved c =
    let flat = c.args.sought.now.flat in
    let i = c.loop-node.invariant in
    let e = c.in_ok-add_of.ensures in
    let place = c.args.place in
    let node = c.loop-node.node in
    let old = c.loop-node.self.states.keys in
    let new = c.add_of.new.self.states.keys in
    let long = grows_long i.grows in
    let here : place < length old = omega (arith, long, c.requires.within) in
    record {
      ways = e.ways;
      grows = grows_again i.grows e.grows;
      done = λ n lt. elim (cases_eq n node) [
        | inl same ↦ subst (λ x. HasAllStepsAt flat new place x) (sym same) e.all
        | inr apart ↦ step_on flat old new place n here e.grows (i.done n (omega (arith, lt, apart)))
      ];
    }

pub returns-clause-all : goal.returns-clause-all
returns-clause-all c = λ node deed can.
    let sought = c.args.sought.now in
    let i = c.loop-node.invariant in
    let ways = c.loop-node.self in
    let long = grows_long i.grows in
    let below = can_at_below sought ways.states.keys ways.origins.items ways.settled.items c.args.place node deed c.requires.ways.task i.ways.kept
    (omega (arith, long, c.requires.within)) can in
    i.done node (omega (arith, below, c.loop-node-test.false, c.loop-node.auto.node-end)) deed can
