use Rattle.std.proofs.Common.{◌≡◌, ◌<◌, ◌≤◌, arith, get_or, length, rules}
use Rattle.lrc_replay.proofs.Replayed.{state_past, state_there}
use Rattle.lrc_replay.proofs.replay.Replay.state.Goals as goal

pub returns-then-node-len : goal.returns-then-node-len
returns-then-node-len c world is =
    let items = c.args.self.now.nodes.items in
    let inside : c.args.node < length items = search rules in
    let at : c.index.result.now ≡ get_or items c.args.node c.index.result.now = search rules in
    state_there c.args.self.now world c.args.node is (λ s. s.now) c.index.result.now c.state.result inside at c.state.ensures

pub returns-else-node-len : goal.returns-else-node-len
returns-else-node-len c world is =
    let past : length c.args.self.now.nodes.items ≤ c.args.node = omega arith in
    state_past c.args.self.now world c.args.node is past
