use Rattle.std.proofs.Common.{◌<◌, length, rules}
use Rattle.lrc_weave.proofs.Looping.{own_end, own_more, own_not}
use Rattle.lrc_weave.proofs.owner.are_all_own.Goals as goal

pub returns-then-not-are_own : goal.returns-then-not-are_own
returns-then-not-are_own c =
    let here : c.loop-node.node < length c.args.logs.now = search rules in
    own_not (λ log. log.items) c.args.logs.now c.args.wires.now c.loop-node.node c.index-logs-node.result c.as_slice.result.now
    c.index-wires-node.result c.history.result.now c.are_own.result here (search rules) (search rules) (search rules) (search rules)
    (search rules) c.are_own.ensures (search rules)

pub loop-node-preserved : goal.loop-node-preserved
loop-node-preserved c =
    let here : c.loop-node.node < length c.args.logs.now = search rules in
    own_more (λ log. log.items) c.args.logs.now c.args.wires.now c.loop-node.node c.index-logs-node.result c.as_slice.result.now
    c.index-wires-node.result c.history.result.now c.are_own.result here (search rules) (search rules) (search rules) (search rules)
    (search rules) c.are_own.ensures (search rules) c.loop-node.invariant

pub returns : goal.returns
returns c =
    own_end (λ log. log.items) c.args.logs.now c.args.wires.now c.loop-node.node (search rules) c.loop-node.invariant
