use Rattle.std.proofs.Common.{rules, tests, ◌∙◌}
use Rattle.std.proofs.lemmas.Iterator.{YieldsList-from_slice}
use Rattle.std.proofs.lemmas.Iterator.Search.{any_from_yields_List}
use Rattle.lrc_program.specs.Statements.{expression_of}
use Rattle.lrc_lint_warned.specs.declared.found.NodeAt as code_node
use Rattle.lrc_lint_warned.specs.Found.{NodeAt, node_seen}
use Rattle.lrc_lint_warned.specs.Names.{is_name}
use Rattle.lrc_lint_warned.proofs.Lists.{any_seen}
use Rattle.lrc_lint_warned.proofs.names.some_read.Goals as goal

pub returns : goal.returns
returns c =
    any_from_yields_List (λ (x : code_node.NodeAt). is_name c.args.name (expression_of x.node.now)) _ _ c.any.result c.any.ensures.ran
    (YieldsList-from_slice c.args.nodes.now cc) (λ x b q k. search (rules, tests))
    ∙ any_seen (node_seen) (λ (n : NodeAt). is_name c.args.name n.node) c.args.nodes.now
