use Rattle.std.proofs.Common.{◌≡◌, is_some, sym, ◌∙◌}
use Rattle.std.specs.Prelude.{◌&&◌, ◌||◌}
use Rattle.lrc_named_expression.specs.Partial.{partial_with, value_of}
use Rattle.lrc_named_expression.specs.Seen.{partial_seen}
use Rattle.lrc_named_tokens.specs.View.{token_of}
use Rattle.lrc_named_statement.specs.Body.{is_ending}
use Rattle.lrc_named_statement.specs.Seen.{purpose_seen}
use Rattle.lrc_named_statement.proofs.Takes.{ends_or_goes_on, or_holds, or_other}
use Rattle.lrc_named_statement.proofs.body.Body.goes_on.Goals as goal

pub returns-then-ends : goal.returns-then-ends
returns-then-ends c = λ outer before at.
    let purpose = purpose_seen c.args.purpose.now in
    let x = partial_seen c.args.self.now.expression in
    let t = token_of c.args.token in
    c.if-ends.true ∙ c.if-ends.ensures
    ∙ or_holds _ _ _ (sym c.if-ends.ensures) (ends_or_goes_on outer before purpose (value_of x) (is_ending purpose t) (partial_with x at t) t)

pub returns-else-ends : goal.returns-else-ends
returns-else-ends c = λ outer before at.
    let purpose = purpose_seen c.args.purpose.now in
    let x = partial_seen c.args.self.now.expression in
    let t = token_of c.args.token in
    c.takes.ensures at
    ∙ or_other _ _ _ (sym c.if-ends.ensures)
    (ends_or_goes_on outer before purpose (value_of x) (is_ending purpose t) (partial_with x at t) t)
