use Rattle.std.proofs.Common.{◌∙◌, ap, arith, length}
use Rattle.std.proofs.lemmas.List.{length_push}
use Rattle.lrc_graph.specs.declared.graph.Graph.{Graph}
use Rattle.lrc_graph.proofs.Edges.{edges_widened}
use Rattle.lrc_graph.proofs.graph.Graph.widen.Goals as goal

pub loop-alloc-preserved : goal.loop-alloc-preserved
loop-alloc-preserved c =
    let old = c.loop-alloc.self in
    let new : Graph = record { before = c.push.new.self } in
    let is = c.in_ok-push.ensures.items in
    let widened = edges_widened old new c.new.result c.new.ensures.items is in
    let long = ap (λ l. length l) is ∙ length_push old.before.items c.new.result in (
      omega (arith, long, c.loop-alloc-test.true, c.len.ensures, old.before.ok.0),
      λ from to. (
        λ edge. (c.loop-alloc.invariant.1 from to).0 ((widened from to).0 edge),
        λ edge. (widened from to).1 ((c.loop-alloc.invariant.1 from to).1 edge),
      ),
    )
