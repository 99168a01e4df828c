use Rattle.std.proofs.Common.{◌≡◌, ◌∙◌, replicate, rules, sym}
use Rattle.lrc_program.specs.Statements.{expression_of}
use Rattle.lrc_exec.specs.Meaning.{value_of}
use Rattle.lrc_lint_warned.proofs.Closed.{closed_names, closed_value, open_value}
use Rattle.lrc_lint_warned.proofs.constant.constant_of.Goals as goal

pub evaluate-requires : goal.evaluate-requires
evaluate-requires c = closed_names (expression_of c.args.expression.now) (sym c.is_closed.ensures ∙ c.if-is_closed.true)

pub returns-then-is_closed : goal.returns-then-is_closed
returns-then-is_closed c =
    let value : c.ok.result ≡ value_of 0 0 (replicate 32 0) c.args.expression.now = search rules in
    value ∙ closed_value 0 0 (replicate 32 0) c.args.expression.now (sym c.is_closed.ensures ∙ c.if-is_closed.true)

pub returns-else-is_closed : goal.returns-else-is_closed
returns-else-is_closed c = sym (open_value (expression_of c.args.expression.now) (sym c.is_closed.ensures ∙ c.if-is_closed.false))
