use Rattle.std.proofs.Common.{rules, tests, ◌∙◌, Bor}
use Rattle.std.proofs.lemmas.Iterator.{YieldsList-from_slice}
use Rattle.std.proofs.lemmas.Iterator.Search.{any_from_yields_List}
use Rattle.lrc_program.specs.Statements.{expression_of}
use Rattle.lrc_program.specs.declared.Expression.{Expression}
use Rattle.lrc_lint_warned.specs.Blocks.{is_me}
use Rattle.lrc_lint_warned.proofs.Lists.{any_seen}
use Rattle.lrc_lint_warned.proofs.blocks.some_me.Goals as goal

pub returns : goal.returns
returns c =
    any_from_yields_List (λ (x : Bor Expression). is_me (expression_of x.now)) _ _ c.any.result c.any.ensures.ran
    (YieldsList-from_slice c.args.nodes.now cc) (λ x b q k. search (rules, tests))
    ∙ any_seen (λ (n : Bor Expression). expression_of n.now) (is_me) c.args.nodes.now
