use Rattle.lrc_named_tokens.proofs.Signs.{long_sign_is_taken, short_sign_is_taken, bad_byte_is_taken}
use Rattle.lrc_named_tokens.proofs.lexer.sign_at.Goals as goal

pub returns-in-Some-clause-taken : goal.returns-in-Some-clause-taken
returns-in-Some-clause-taken c = long_sign_is_taken c.in-Some.ensures

pub returns-in-Some-short_sign-clause-taken : goal.returns-in-Some-short_sign-clause-taken
returns-in-Some-short_sign-clause-taken c = short_sign_is_taken c.in-Some-short_sign.ensures c.in_default.ensures

pub returns-in-None-clause-taken : goal.returns-in-None-clause-taken
returns-in-None-clause-taken c =
    bad_byte_is_taken c.requires.ready c.requires.no_digit c.requires.no_letter c.in_default.ensures c.in-None.ensures
