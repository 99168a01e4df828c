-- The first one that is over its size, or none.
use Rattle.std.proofs.Common.{map, subst, ap}
use Rattle.std.proofs.lemmas.List.{take_all}
use Rattle.lrc_named_expression_faults.specs.View.{scope_of}
use Rattle.lrc_named_index_hint.specs.Over.{IsFound, IsOver}
use Rattle.lrc_named_index_hint.specs.Spots.{spot_seen}
use Rattle.lrc_named_index_hint.proofs.Finding.{IsNoneOver, none_step, one_here}
use Rattle.lrc_named_index_hint.proofs.over.one_over.Goals as goal

pub loop-spot-preserved : goal.loop-spot-preserved
loop-spot-preserved c =
    let scope = scope_of c.args.scope.now in
    none_step scope c.args.spots.now c.loop-spot.spot-index c.spot-item.result c.loop-spot-test.true c.spot-item.is c.loop-spot.invariant
    (subst (λ o. IsFound (λ v s. IsOver scope (spot_seen c.spot-item.result) v s) o) c.in_default.is c.in_ok-found.ensures)

pub returns-in-Some : goal.returns-in-Some
returns-in-Some c =
    let scope = scope_of c.args.scope.now in
    one_here scope c.args.spots.now c.loop-spot.spot-index c.spot-item.result c.in-Some.beyond.value c.in-Some.beyond.size c.loop-spot-test.true c.spot-item.is
    (subst (λ o. IsFound (λ v s. IsOver scope (spot_seen c.spot-item.result) v s) o) c.in-Some.is c.in_ok-found.ensures)

pub returns : goal.returns
returns c =
    subst (λ l. IsNoneOver (scope_of c.args.scope.now) (map spot_seen l)) (take_all c.loop-spot.spot-index c.args.spots.now c.loop-spot-test.false)
    c.loop-spot.invariant
