use Rattle.std.proofs.Common.{refl, inl, inr, arith}
use Rattle.lrc_named_tokens.proofs.Steps.{number_is_taken, bad_number_is_taken}
use Rattle.lrc_named_tokens.proofs.lexer.number_at.Goals as goal

pub returns-then-begins_with_letter-clause-taken : goal.returns-then-begins_with_letter-clause-taken
returns-then-begins_with_letter-clause-taken c =
    bad_number_is_taken c.requires c.split_front.ensures (inr (c.if-begins_with_letter.ensures.0 refl))

pub returns-in-Some-clause-taken : goal.returns-in-Some-clause-taken
returns-in-Some-clause-taken c =
    number_is_taken c.requires c.split_front.ensures (λ h. let t = c.if-begins_with_letter.ensures.1 h in absurd (cc)) c.in-Some.ensures

pub returns-in-None-clause-taken : goal.returns-in-None-clause-taken
returns-in-None-clause-taken c =
    let over = c.in-None.ensures in
    bad_number_is_taken c.requires c.split_front.ensures (inl (omega (arith, over)))
