use Rattle.std.proofs.Common.{◌≡◌, ◌<◌, ◌^◌, take}
use Rattle.lrc_lang.specs.Lexemes.{value_of}
use Rattle.lrc_lang.proofs.lexer.number_of.Given as goal

-- the value of the digits so far
abbrev pub invariant-loop-digit : goal.invariant-loop-digit
invariant-loop-digit l = record { so_far : l.value ≡ value_of (take l.digit-index l.digits); fits : l.value < 2 ^ 64 }
