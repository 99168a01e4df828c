use Rattle.std.proofs.Common.{◌≡◌, is_some, sym, ◌∙◌}
use Rattle.lrc_named_expression.specs.Partial.{partial_with, value_of}
use Rattle.lrc_named_expression.specs.Seen.{partial_seen}
use Rattle.lrc_named_statement.proofs.Takes.{or_holds, or_other}
use Rattle.lrc_named_tokens.specs.View.{token_of}
use Rattle.lrc_named_parse.specs.SeenState.{purpose_seen}
use Rattle.lrc_named_parse.specs.State.{is_ending}
use Rattle.lrc_named_parse.proofs.Takes.{ends_or_goes_on}
use Rattle.lrc_named_parse.proofs.state.State.is_within.Goals as goal

pub returns-then-ends : goal.returns-then-ends
returns-then-ends c = λ before at.
    let purpose = purpose_seen c.args.purpose.now in
    let x = partial_seen c.args.self.now.expression in
    let t = token_of c.args.token in
    c.if-ends.true ∙ c.if-ends.ensures
    ∙ or_holds _ _ _ (sym c.if-ends.ensures) (ends_or_goes_on before purpose (value_of x) (is_ending purpose t) (partial_with x at t))

pub returns-else-ends : goal.returns-else-ends
returns-else-ends c = λ before at.
    let purpose = purpose_seen c.args.purpose.now in
    let x = partial_seen c.args.self.now.expression in
    let t = token_of c.args.token in
    c.takes.ensures at
    ∙ or_other _ _ _ (sym c.if-ends.ensures) (ends_or_goes_on before purpose (value_of x) (is_ending purpose t) (partial_with x at t))
