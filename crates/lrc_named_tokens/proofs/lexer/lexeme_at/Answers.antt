use Rattle.std.proofs.Common.{◌⊎◌, refl, sym, subst}
use Rattle.lrc_lang.specs.Lexemes.{IsBlank, IsLineFeed, IsHash, IsDigit, IsLetter}
use Rattle.lrc_named_tokens.specs.Lexer.{Takes, IsShorter}
use Rattle.lrc_named_tokens.specs.View.{lexeme_of}
use Rattle.lrc_lang.proofs.LexemesSteps.{begins_so, front_is}
use Rattle.lrc_named_tokens.proofs.Steps.{end_is_taken}
use Rattle.lrc_named_tokens.proofs.lexer.lexeme_at.Goals as goal

pub returns-in-empty-clause-taken : goal.returns-in-empty-clause-taken
returns-in-empty-clause-taken c = end_is_taken c.args.text.now c.args.text.now c.in-empty.len_below

pub number_at-requires : goal.number_at-requires
number_at-requires c = begins_so IsDigit c.args.text.now c.in-len1-up.len_at_least (c.if-is_in.ensures.0 refl)

pub word_at-requires : goal.word_at-requires
word_at-requires c = begins_so IsLetter c.args.text.now c.in-len1-up.len_at_least (c.if-is_letter.ensures.0 refl)

pub sign_at-requires-clause-ready : goal.sign_at-requires-clause-ready
sign_at-requires-clause-ready c = λ h. c.requires (begins_so (λ byte. IsBlank byte ⊎ IsLineFeed byte ⊎ IsHash byte) c.args.text.now c.in-len1-up.len_at_least h)

pub sign_at-requires-clause-no_digit : goal.sign_at-requires-clause-no_digit
sign_at-requires-clause-no_digit c = λ h. let t = c.if-is_in.ensures.1 h in absurd (cc)

pub sign_at-requires-clause-no_letter : goal.sign_at-requires-clause-no_letter
sign_at-requires-clause-no_letter c = λ h. let t = c.if-is_letter.ensures.1 h in absurd (cc)

pub returns-in-len1-up-clause-taken : goal.returns-in-len1-up-clause-taken
returns-in-len1-up-clause-taken c = c.number_at.ensures.taken

pub returns-in-len1-up-clause-shorter : goal.returns-in-len1-up-clause-shorter
returns-in-len1-up-clause-shorter c = c.number_at.ensures.shorter

pub returns-in-len1-up-2-clause-taken : goal.returns-in-len1-up-2-clause-taken
returns-in-len1-up-2-clause-taken c = c.word_at.ensures.taken

pub returns-in-len1-up-2-clause-shorter : goal.returns-in-len1-up-2-clause-shorter
returns-in-len1-up-2-clause-shorter c = c.word_at.ensures.shorter

pub returns-in-len1-up-3-clause-taken : goal.returns-in-len1-up-3-clause-taken
returns-in-len1-up-3-clause-taken c =
    subst (λ text. Takes text (lexeme_of c.sign_at.result.0) c.sign_at.result.1.now)
    (sym (front_is c.args.text.now c.in-len1-up.len_at_least)) c.sign_at.ensures.taken

pub returns-in-len1-up-3-clause-shorter : goal.returns-in-len1-up-3-clause-shorter
returns-in-len1-up-3-clause-shorter c =
    subst (λ text. IsShorter (lexeme_of c.sign_at.result.0) text c.sign_at.result.1.now)
    (sym (front_is c.args.text.now c.in-len1-up.len_at_least)) c.sign_at.ensures.shorter
