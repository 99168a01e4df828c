use Rattle.std.proofs.Common.{refl, sym, ◌∙◌}
use Rattle.lrc_named_tokens.specs.View.{token_of}
use Rattle.lrc_named_expression.specs.Seen.{partial_seen}
use Rattle.lrc_named_expression.proofs.Takes.{name_called, name_other}
use Rattle.lrc_named_expression.proofs.partial.Partial.follows_name.Goals as goal

pub returns-then-is_parenthesis : goal.returns-then-is_parenthesis
returns-then-is_parenthesis c = λ name at.
    let x = partial_seen c.args.self.now in
    c.if-is_parenthesis.true ∙ name_called x.outer x.level name at (token_of c.args.token) (c.if-is_parenthesis.ensures.0 refl)

pub returns-else-is_parenthesis : goal.returns-else-is_parenthesis
returns-else-is_parenthesis c = λ name at.
    let x = partial_seen c.args.self.now in
    c.follows_index.ensures _ _ _ _
    ∙ sym (name_other x.outer x.level name at (token_of c.args.token) (λ h. let t = c.if-is_parenthesis.ensures.1 h in absurd (cc)))
