use Rattle.std.proofs.Common.{◌≡◌, ◌<◌, ◌∙◌, [], length, map, subst, sym, ap, rules}
use Rattle.std.specs.Prelude.{slice_index_or}
use Rattle.lrc_weave.specs.Matched.{puts_by}
use Rattle.lrc_weave.specs.Compared.{messages_left, puts_in}
use Rattle.lrc_weave.proofs.Looping.{each_long, node_more, node_not, nodes_end, not_by_nodes, own_lines}
use Rattle.lrc_weave.proofs.compared.are_alike.Goals as goal

pub returns-then-not-are_all_by_nodes : goal.returns-then-not-are_all_by_nodes
returns-then-not-are_all_by_nodes c =
    not_by_nodes (λ log. log.items) c.args.logs.now c.args.wires.now c.are_all_by_nodes.result c.are_all_by_nodes.ensures (search rules)

pub of-requires : goal.of-requires
of-requires c = λ k d within.
    let read : c.as_slice.result.now ≡ c.in_ok-puts.puts.items = search rules in
    let here : c.loop-node.node < length c.args.logs.now = search rules in
    subst (λ n. c.loop-node.node < n)
    (sym (each_long (λ own. own.lines.items) (λ line. map (λ wire. wire.now) line.items) (length c.args.logs.now) c.as_slice.result.now c.args.wires.now
    (ap (map puts_in) read ∙ c.in_ok-puts.ensures) k d within))
    here

pub returns-then-not-branch : goal.returns-then-not-branch
returns-then-not-branch c =
    let here : c.loop-node.node < length c.args.logs.now = search rules in
    let read : c.as_slice.result.now ≡ c.in_ok-puts.puts.items = search rules in
    let own : messages_left c.in_ok-lines.lines ≡ map (λ mailbox. puts_by c.loop-node.node mailbox.history) c.args.wires.now =
    own_lines puts_in (λ line. line.now) (λ wire. wire.now) c.in_ok-puts.puts.items c.in_ok-lines.lines.lines.items c.args.wires.now
    (length c.args.logs.now) c.loop-node.node here c.in_ok-puts.ensures
    (c.in_ok-lines.ensures ∙ ap (map (λ own. slice_index_or (puts_in own) c.loop-node.node [])) read) in
    node_not (λ log. log.items) c.args.logs.now c.args.wires.now c.loop-node.node c.index-logs-node.result c.as_slice-in-loop-node.result.now
    c.index-wires-node.result c.history.result.now (messages_left c.in_ok-lines.lines) c.in_ok-is_alike.field-0 here (search rules) (search rules)
    (search rules) (search rules) (search rules) own c.in_ok-is_alike.ensures (search rules)

pub loop-node-preserved : goal.loop-node-preserved
loop-node-preserved c =
    let here : c.loop-node.node < length c.args.logs.now = search rules in
    let read : c.as_slice.result.now ≡ c.in_ok-puts.puts.items = search rules in
    let own : messages_left c.in_ok-lines.lines ≡ map (λ mailbox. puts_by c.loop-node.node mailbox.history) c.args.wires.now =
    own_lines puts_in (λ line. line.now) (λ wire. wire.now) c.in_ok-puts.puts.items c.in_ok-lines.lines.lines.items c.args.wires.now
    (length c.args.logs.now) c.loop-node.node here c.in_ok-puts.ensures
    (c.in_ok-lines.ensures ∙ ap (map (λ own. slice_index_or (puts_in own) c.loop-node.node [])) read) in
    node_more (λ log. log.items) c.args.logs.now c.args.wires.now c.loop-node.node c.index-logs-node.result c.as_slice-in-loop-node.result.now
    c.index-wires-node.result c.history.result.now (messages_left c.in_ok-lines.lines) c.in_ok-is_alike.field-0 here (search rules) (search rules)
    (search rules) (search rules) (search rules) own c.in_ok-is_alike.ensures (search rules) c.loop-node.invariant

pub returns : goal.returns
returns c =
    nodes_end (λ log. log.items) c.args.logs.now c.args.wires.now c.are_all_by_nodes.result c.are_all_by_nodes.ensures (search rules) c.loop-node.node
    (search rules) c.loop-node.invariant
