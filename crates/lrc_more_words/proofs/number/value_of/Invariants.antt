-- What the digits left make of the value so far is what all digits make.
use Rattle.std.proofs.Common.{◌≡◌, drop}
use Rattle.std.specs.Prelude.{fold}
use Rattle.lrc_more_words.specs.Number.{step, value_of}
use Rattle.lrc_more_words.proofs.number.value_of.Given as goal

abbrev pub invariant-loop-digit : goal.invariant-loop-digit
invariant-loop-digit l = fold step l.value (drop l.digit-index l.digits) ≡ value_of l.digits
