-- The walk of the node is the one of its number.
use Rattle.std.proofs.Common.{rules, ◌≡◌, ◌<◌, ◌∙◌, get_or, length}
use Rattle.lrc_lines.specs.Walks.{line_at}
use Rattle.lrc_lines.proofs.Several.{found_at}
use Rattle.lrc_lines.proofs.walks.Walks.line.Goals as goal

pub returns-then-node-len : goal.returns-then-node-len
returns-then-node-len c =
    let items = c.args.self.now.nodes.items in
    let end = c.args.self.now.end in
    let node : c.from-node.result ≡ c.args.node = search rules in
    let inside : c.from-node.result < length items = search rules in
    let is : c.index.result.now ≡ get_or items c.from-node.result c.index.result.now = search rules in
    c.line.ensures ∙ found_at (line_at end) items c.from-node.result c.args.node c.index.result.now end node inside is
