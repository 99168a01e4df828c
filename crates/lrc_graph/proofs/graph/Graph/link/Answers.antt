use Rattle.std.proofs.Common.{refl}
use Rattle.std.specs.Vec.{with_item}
use Rattle.std.proofs.lemmas.Option.{slice_get_read}
use Rattle.lrc_graph.specs.declared.graph.Graph.{Graph}
use Rattle.lrc_graph.proofs.Edges.{edges_linked}
use Rattle.lrc_graph.proofs.graph.Graph.link.Goals as goal

pub returns-clause-edges : goal.returns-clause-edges
returns-clause-edges c =
    let old = c.args.self.now in
    let row = c.index_mut.result.now in
    let longer = c.push.new.self in
    let new : Graph = record { before = with_item old.before c.args.to longer } in
    edges_linked old new c.args.from c.args.to row longer c.requires
    (slice_get_read old.before.items _ c.args.to row refl c.requires c.index_mut.ensures.value)
    c.in_ok-push.ensures.items refl
