-- The walk of the node is the one of its number.
use Rattle.std.proofs.Common.{rules, ◌≡◌, ◌<◌, ◌∙◌, get_or, length}
use Rattle.lrc_exec.specs.Ask.{ask_of}
use Rattle.lrc_exec.specs.declared.machine.Ask.TheVariants.{End}
use Rattle.lrc_exec.specs.Meaning.{next_of}
use Rattle.lrc_lines.proofs.Several.{found_at}
use Rattle.lrc_lines.proofs.walks.Walks.ask.Goals as goal

pub returns-then-node-len : goal.returns-then-node-len
returns-then-node-len c =
    let items = c.args.self.now.nodes.items in
    let node : c.from-node.result ≡ c.args.node = search rules in
    let inside : c.from-node.result < length items = search rules in
    let is : c.index.result.now ≡ get_or items c.from-node.result c.index.result.now = search rules in
    c.ask.ensures ∙ found_at (λ walk. ask_of (next_of walk.thread)) items c.from-node.result c.args.node c.index.result.now End node inside is
