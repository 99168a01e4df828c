-- The word alone.
use Rattle.std.proofs.Common.{arith, subst, sym}
use Rattle.lrc_races_lines.specs.Cause.{IsOperationCause, IsUpTo, no_operation, up_to_end, word_bare, word_lacking, word_unknown}
use Rattle.lrc_races_lines.proofs.Caused.{nil-by, not-nil}
use Rattle.lrc_races_lines.proofs.cause.bare_cause.Goals as goal

pub returns-then-is_empty : goal.returns-then-is_empty
returns-then-is_empty c =
    subst (λ w. IsOperationCause w no_operation) (sym (nil-by c.args.word.now (grind (arith, c.is_empty.ensures, c.if-is_empty.true))))
    (word_lacking (up_to_end tt))

pub returns-then-is_idle_word : goal.returns-then-is_idle_word
returns-then-is_idle_word c = c.is_idle_word.ensures.0 c.if-is_idle_word.true

pub returns-in-Some : goal.returns-in-Some
returns-in-Some c = word_bare c.requires (c.in-Some._kind, c.in-Some.ensures.0, c.in-Some.ensures.1)

pub returns-in-None : goal.returns-in-None
returns-in-None c = word_unknown (up_to_end c.requires) (not-nil c.args.word.now (grind (arith, c.is_empty.ensures, c.if-is_empty.false)))
    (λ (kind, acts, is). c.in-None.ensures kind acts is)
    (λ idle. let e = c.is_idle_word.ensures.1 idle in let f = c.if-is_idle_word.false in let never : ⊥ = cc in never)
