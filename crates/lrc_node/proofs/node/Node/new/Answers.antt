use Rattle.std.proofs.Common.{◌≡◌, ◌∙◌, [], sym, subst, ap}
use Rattle.lrc_trace.specs.Trace.{TraceRecord}
use Rattle.lrc_protocol.specs.Node.{Node, OptionsRecord, fresh_node}
use Rattle.lrc_node_laws.specs.Traced.{IsTraced}
use Rattle.lrc_node_laws.proofs.Noting.{traced_first}
use Rattle.lrc_node.proofs.node.Node.new.Goals as goal

pub invariant_of-result : goal.invariant_of-result
invariant_of-result c = λ e.
    let first : Node = fresh_node c.args.code.now c.args.nodes c.args.options.now c.args.me in
    let trace : TraceRecord = record { node = c.args.me; size = c.args.options.now.size; segments = [] } in
    let noted : c.new-2.result ≡ trace =
    c.new-2.ensures ∙ ap (λ (o : OptionsRecord). let t : TraceRecord = record { node = c.args.me; size = o.size; segments = [] } in t) c.options.view_is in
    subst (λ (node : Node). IsTraced node c.new-2.result) (sym c.in_ok-new.ensures)
    (subst (IsTraced first) (sym noted) (traced_first c.args.code.now c.args.nodes c.args.options.now c.args.me c.requires.here))
