-- The digits read so far write no greater number than all of them do.
use Rattle.std.proofs.Common.{ap, ◌∙◌, arith}
use Rattle.std.proofs.lemmas.List.{take_all}
use Rattle.lrc_lang.specs.Lexemes.{value_of}
use Rattle.lrc_lang.proofs.LexemesNumbers.{value_of_more, value_of_grows}
use Rattle.lrc_lang.proofs.lexer.number_of.Goals as goal

pub returns-in_err-checked_mul : goal.returns-in_err-checked_mul
returns-in_err-checked_mul c =
    let grows = value_of_grows c.args.digits.now c.loop-digit.digit-index (omega arith) in
    let over = c.in_err-checked_mul.ensures in
    rw c.from_residual.ensures (omega (arith, grows, over))

pub returns-in_err-value : goal.returns-in_err-value
returns-in_err-value c =
    let grows = value_of_grows c.args.digits.now c.loop-digit.digit-index (omega arith) in
    let scaled = c.in_ok-checked_mul.ensures in
    let over = c.in_err-value.ensures in
    rw c.from_residual-in_err-value.ensures (omega (arith, grows, scaled, over))

pub loop-digit-preserved : goal.loop-digit-preserved
loop-digit-preserved c =
    let more = value_of_more c.args.digits.now c.loop-digit.digit-index (omega arith) in
    let scaled = c.in_ok-checked_mul.ensures in
    let added = c.in_ok-value.ensures in
    record { so_far = omega (arith, more, scaled, added); fits = omega (arith, added) }

pub returns : goal.returns
returns c =
    let all = take_all c.loop-digit.digit-index c.args.digits.now (omega arith) in
    let same = c.loop-digit.invariant.so_far ∙ ap value_of all in
    (omega (arith, same), same)
