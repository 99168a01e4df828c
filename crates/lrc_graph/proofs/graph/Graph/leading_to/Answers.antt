use Rattle.std.proofs.Common.{◌≡◌, ◌<◌, arith, get_or, length, refl, subst}
use Rattle.std.specs.Prelude.{Contains, Some, slice_get}
use Rattle.std.proofs.lemmas.List.{get_or_read}
use Rattle.std.proofs.lemmas.Option.{slice_get_read}
use Rattle.lrc_graph.specs.Reached.{Adds}
use Rattle.lrc_graph.proofs.Closing.{all_reached, closing_first, closing_on, few_listed, place_within}
use Rattle.lrc_graph.proofs.Edges.{row_within}
use Rattle.lrc_graph.proofs.graph.Graph.leading_to.Goals as goal

pub loop-at-init : goal.loop-at-init
loop-at-init c =
    let e = c.in_ok-reached.ensures in
    closing_first c.args.self.now c.args.ends.now c.in_ok-reached.reached e.listed e.count c.requires.ends e.exact

pub index-requires : goal.index-requires
index-requires c =
    let graph = c.args.self.now in
    let reached = c.loop-at.reached in
    let lt : c.loop-at.at < length reached.places.items = omega (arith, c.loop-at-test.true, c.len.ensures, reached.places.ok.0) in
    let is : c.index-place.result.now ≡ get_or reached.places.items c.loop-at.at 0 =
    get_or_read reached.places.items c.loop-at.at c.index-place.result.now lt c.index-place.ensures 0 in
    let within = place_within graph c.args.ends.now reached c.loop-at.at c.loop-at.invariant _ (c.loop-at.invariant.listed.known c.loop-at.at lt) in
    omega (arith, is, within, graph.before.ok.0)

pub add_all-requires-clause-within : goal.add_all-requires-clause-within
add_all-requires-clause-within c place in_row =
    let graph = c.args.self.now in
    let reached = c.loop-at.reached in
    let lt : c.loop-at.at < length reached.places.items = omega (arith, c.loop-at-test.true, c.len.ensures, reached.places.ok.0) in
    let is : c.index-place.result.now ≡ get_or reached.places.items c.loop-at.at 0 =
    get_or_read reached.places.items c.loop-at.at c.index-place.result.now lt c.index-place.ensures 0 in
    let inside = place_within graph c.args.ends.now reached c.loop-at.at c.loop-at.invariant _ (c.loop-at.invariant.listed.known c.loop-at.at lt) in
    let row = c.index.result.now in
    let there = slice_get_read graph.before.items _ c.index-place.result.now row refl (omega (arith, is, inside)) c.index.ensures in
    let within = row_within graph c.index-place.result.now row c.requires.within there place (subst (λ l. Contains l place) c.deref.ensures.value in_row) in
    let size = c.loop-at.invariant.size in
    omega (arith, within, size)

pub loop-at-preserved : goal.loop-at-preserved
loop-at-preserved c =
    let graph = c.args.self.now in
    let reached = c.loop-at.reached in
    let lt : c.loop-at.at < length reached.places.items = omega (arith, c.loop-at-test.true, c.len.ensures, reached.places.ok.0) in
    let is : c.index-place.result.now ≡ get_or reached.places.items c.loop-at.at 0 =
    get_or_read reached.places.items c.loop-at.at c.index-place.result.now lt c.index-place.ensures 0 in
    let inside = place_within graph c.args.ends.now reached c.loop-at.at c.loop-at.invariant _ (c.loop-at.invariant.listed.known c.loop-at.at lt) in
    let row = c.index.result.now in
    let there = slice_get_read graph.before.items _ c.index-place.result.now row refl (omega (arith, is, inside)) c.index.ensures in
    closing_on graph c.args.ends.now reached c.loop-at.at c.loop-at.invariant c.add_all.new.self row lt
    (subst (λ n. slice_get graph.before.items n ≡ Some row) is there) c.in_ok-add_all.ensures.listed
    (subst (λ l. Adds reached c.add_all.new.self (Contains l)) c.deref.ensures.value c.in_ok-add_all.ensures.adds)

pub loop-at-smaller : goal.loop-at-smaller
loop-at-smaller c =
    let graph = c.args.self.now in
    let reached = c.loop-at.reached in
    let few = few_listed graph c.args.ends.now reached c.loop-at.at c.loop-at.invariant in
    omega (arith, few, c.loop-at-test.true, c.len.ensures, reached.places.ok.0)

pub returns-clause-exact : goal.returns-clause-exact
returns-clause-exact c =
    let reached = c.loop-at.reached in
    all_reached c.args.self.now c.args.ends.now reached c.loop-at.at c.loop-at.invariant
    (omega (arith, c.loop-at-test.false, c.len.ensures, reached.places.ok.0))
