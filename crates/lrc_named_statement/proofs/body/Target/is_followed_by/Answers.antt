use Rattle.std.proofs.Common.{refl, sym, ◌∙◌}
use Rattle.lrc_named_tokens.specs.View.{token_of}
use Rattle.lrc_named_statement.specs.Seen.{target_seen}
use Rattle.lrc_named_statement.proofs.Takes.{place_opened, place_other}
use Rattle.lrc_named_statement.proofs.body.Target.is_followed_by.Goals as goal

pub returns-then-is_bracket : goal.returns-then-is_bracket
returns-then-is_bracket c = λ outer before name indices.
    c.if-is_bracket.true ∙ place_opened outer before (target_seen c.args.self) name indices (token_of c.args.token) (c.if-is_bracket.ensures.0 refl)

pub returns-else-is_bracket : goal.returns-else-is_bracket
returns-else-is_bracket c = λ outer before name indices.
    c.is_ended.ensures outer before _
    ∙ sym (place_other outer before (target_seen c.args.self) name indices (token_of c.args.token)
    (λ h. let t = c.if-is_bracket.ensures.1 h in absurd (cc)))
