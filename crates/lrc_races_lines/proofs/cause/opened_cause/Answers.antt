-- The word, and what stands behind the parenthesis.
use Rattle.std.proofs.Common.{◌∷◌, ◌++◌, arith, subst, sym}
use Rattle.lrc_races_lines.specs.Cause.{IsOperationCause, no_operation, up_to_byte, word_lacking, word_unknown}
use Rattle.lrc_races_lines.proofs.Caused.{idle-opened, nil-by, not-nil, target-opened}
use Rattle.lrc_races_lines.proofs.cause.opened_cause.Goals as goal

pub returns-then-is_empty : goal.returns-then-is_empty
returns-then-is_empty c =
    subst (λ w. IsOperationCause (w ++ 40 ∷ c.args.inner.now) no_operation)
    (sym (nil-by c.args.word.now (grind (arith, c.is_empty.ensures, c.if-is_empty.true)))) (word_lacking (up_to_byte c.args.inner.now tt))

pub returns-then-is_idle_word : goal.returns-then-is_idle_word
returns-then-is_idle_word c = idle-opened c.args.word.now c.args.inner.now _ c.requires (c.is_idle_word.ensures.0 c.if-is_idle_word.true) c.signature_cause.ensures

pub returns-in-Some : goal.returns-in-Some
returns-in-Some c = target-opened c.args.word.now c.args.inner.now c.in-Some._kind _ c.requires c.in-Some.ensures.0 c.in-Some.ensures.1 c.target_cause.ensures

pub returns-in-None : goal.returns-in-None
returns-in-None c = word_unknown (up_to_byte c.args.inner.now c.requires) (not-nil c.args.word.now (grind (arith, c.is_empty.ensures, c.if-is_empty.false)))
    (λ (kind, acts, is). c.in-None.ensures kind acts is)
    (λ idle. let e = c.is_idle_word.ensures.1 idle in let f = c.if-is_idle_word.false in let never : ⊥ = cc in never)
