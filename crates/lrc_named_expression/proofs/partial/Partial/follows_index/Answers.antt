use Rattle.std.proofs.Common.{refl, sym, ◌∙◌}
use Rattle.lrc_named_tokens.specs.View.{token_of}
use Rattle.lrc_named_expression.specs.Seen.{partial_seen}
use Rattle.lrc_named_expression.proofs.Takes.{index_opened, index_other}
use Rattle.lrc_named_expression.proofs.partial.Partial.follows_index.Goals as goal

pub returns-then-is_bracket : goal.returns-then-is_bracket
returns-then-is_bracket c = λ name others last at.
    let x = partial_seen c.args.self.now in
    c.if-is_bracket.true ∙ index_opened x.outer x.level name others last at (token_of c.args.token) (c.if-is_bracket.ensures.0 refl)

pub returns-else-is_bracket : goal.returns-else-is_bracket
returns-else-is_bracket c = λ name others last at.
    let x = partial_seen c.args.self.now in
    c.goes_on.ensures _ _
    ∙ sym (index_other x.outer x.level name others last at (token_of c.args.token) (λ h. let t = c.if-is_bracket.ensures.1 h in absurd (cc)))
