use Rattle.std.proofs.Common.{◌≡◌, ◌<◌, ◌≤◌, ℕ, List, arith}
use Rattle.lrc_judge.specs.declared.lanes.Pair.{Pair}
use Rattle.lrc_judge.proofs.Additions.{IsBelow, adds-iff, below-more, below-none}
use Rattle.lrc_step.specs.Shown.{StandsForNode}
use Rattle.lrc_step.proofs.Standing.{node_below}
use Rattle.lrc_step.proofs.shown.add_pairs_of.Goals as goal

pub loop-node-init : goal.loop-node-init
loop-node-init c = below-none (StandsForNode c.args.acts.now c.args.part c.args.position) c.args.pairs.now.items

pub loop-node-preserved : goal.loop-node-preserved
loop-node-preserved c =
    below-more (StandsForNode c.args.acts.now c.args.part c.args.position) c.args.pairs.now.items c.loop-node.pairs.items c.add_pair_of_node.new.pairs.items
    c.loop-node.node c.loop-node.invariant c.in_ok-add_pair_of_node.ensures

pub returns : goal.returns
returns c =
    let run = c.args.acts.now in
    let IsOf : ℕ → Pair → Type 0 = StandsForNode run c.args.part c.args.position in
    let all : c.args.nodes ≤ c.loop-node.node = omega arith in
    adds-iff c.args.pairs.now.items c.loop-node.pairs.items (IsBelow IsOf c.loop-node.node) (λ pair. (node : ℕ) × IsOf node pair)
    (λ pair (node, less, of). (node, of))
    (λ pair (node, of). let less : node < c.args.nodes = node_below run c.args.nodes node c.args.part c.args.position pair c.requires.nodes of in (node, omega arith, of))
    c.loop-node.invariant
