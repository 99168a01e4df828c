use Rattle.std.proofs.Common.{take, All}
use Rattle.lrc_lang.specs.Lexer.{Has}
use Rattle.lrc_lang.proofs.lexer.split_front.Given as goal

-- the bytes so far are of the class
abbrev pub invariant-loop-place : goal.invariant-loop-place
invariant-loop-place l = All (Has l.class) (take l.place l.text)
