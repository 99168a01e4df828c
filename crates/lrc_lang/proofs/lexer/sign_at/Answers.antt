use Rattle.lrc_lang.proofs.LexemesSigns.{long_sign_is_taken, short_sign_is_taken, bad_byte_is_taken}
use Rattle.lrc_lang.proofs.Located.{long_sign_here, short_sign_here, bad_byte_here}
use Rattle.lrc_lang.proofs.lexer.sign_at.Goals as goal

pub returns-in-Some-clause-taken : goal.returns-in-Some-clause-taken
returns-in-Some-clause-taken c = long_sign_is_taken c.in-Some.ensures.0 c.in-Some.ensures.1

pub returns-in-Some-short_sign-clause-taken : goal.returns-in-Some-short_sign-clause-taken
returns-in-Some-short_sign-clause-taken c = short_sign_is_taken c.in-Some-short_sign.ensures c.in_default.ensures

pub returns-in-None-clause-taken : goal.returns-in-None-clause-taken
returns-in-None-clause-taken c =
    bad_byte_is_taken c.requires.ready c.requires.no_digit c.requires.no_letter c.in_default.ensures c.in-None.ensures

pub returns-in-Some-clause-here : goal.returns-in-Some-clause-here
returns-in-Some-clause-here c = long_sign_here c.in-Some.ensures.0 c.in-Some.ensures.1

pub returns-in-Some-short_sign-clause-here : goal.returns-in-Some-short_sign-clause-here
returns-in-Some-short_sign-clause-here c = short_sign_here c.in-Some-short_sign.ensures c.in_default.ensures

pub returns-in-None-clause-here : goal.returns-in-None-clause-here
returns-in-None-clause-here c =
    bad_byte_here c.requires.ready c.requires.no_digit c.requires.no_letter c.in_default.ensures c.in-None.ensures
