use Rattle.std.proofs.Common.{ap, sym, ◌∙◌}
use Rattle.std.specs.Prelude.{option_map}
use Rattle.lrc_lint_warned.specs.Found.{NodeAt, node_seen}
use Rattle.lrc_lint_warned.specs.Names.{is_name}
use Rattle.lrc_lint_warned.proofs.Lists.{find_here, find_later, find_nowhere}
use Rattle.lrc_lint_warned.proofs.names.first_read.Goals as goal

pub loop-n-preserved : goal.loop-n-preserved
loop-n-preserved c =
    c.loop-n.invariant
    ∙ find_later node_seen (λ (n : NodeAt). is_name c.args.name n.node) c.args.nodes.now c.loop-n.n-index c.n-item.result c.loop-n-test.true c.n-item.is
    (sym c.is_name.ensures ∙ c.if-is_name.false)

pub returns-then-is_name : goal.returns-then-is_name
returns-then-is_name c =
    sym (ap (option_map (λ (x : NodeAt). x.at))
    (c.loop-n.invariant
    ∙ find_here node_seen (λ (n : NodeAt). is_name c.args.name n.node) c.args.nodes.now c.loop-n.n-index c.n-item.result c.loop-n-test.true c.n-item.is
    (sym c.is_name.ensures ∙ c.if-is_name.true)))

pub returns : goal.returns
returns c =
    sym (ap (option_map (λ (x : NodeAt). x.at))
    (c.loop-n.invariant ∙ find_nowhere node_seen (λ (n : NodeAt). is_name c.args.name n.node) c.args.nodes.now c.loop-n.n-index c.loop-n-test.false))
