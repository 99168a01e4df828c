-- What is enclosed is the target, or the text behind an idle word.
use Rattle.std.proofs.Common.{ℕ, List, ◌∷◌, ◌++◌, MatchOption, sym, subst}
use Rattle.lrc_races_lines.specs.declared.line.Kind.{Kind}
use Rattle.lrc_races_lines.specs.Line.{SpellsOperation}
use Rattle.lrc_races_lines.proofs.Spelled.{unclosed, targeted, misnamed, idling, neither}
use Rattle.lrc_races_lines.proofs.reading.opened.Goals as goal
use Rattle.lrc_races_lines.proofs.reading.opened.Goals.{else-is_idle_word-via-then-is_idle_word+else-is_text, else-is_idle_word-via-else-is_idle_word}

pub returns-in_err-inner : goal.returns-in_err-inner
returns-in_err-inner c =
    let word = c.args.word.now in
    let rest = c.args.rest.now in
    subst (λ o. MatchOption o ((kind : Kind) (target : List ℕ) → SpellsOperation kind target (word ++ 40 ∷ rest) → ⊥)
    (λ found. SpellsOperation found.0 found.1.now (word ++ 40 ∷ rest)))
    (sym c.from_residual.ensures) (unclosed word rest c.requires c.in_err-inner.ensures)

pub returns-then-is_name : goal.returns-then-is_name
returns-then-is_name c =
    targeted c.args.word.now c.args.rest.now c.requires c.in_ok-inner.inner.now c.in_ok-inner.ensures c.in-Some.kind c.in-Some.ensures.0 c.in-Some.ensures.1
    (c.is_name.ensures.0 c.if-is_name.true)

pub returns-else-is_name : goal.returns-else-is_name
returns-else-is_name c =
    misnamed c.args.word.now c.args.rest.now c.requires c.in_ok-inner.inner.now c.in_ok-inner.ensures c.in-Some.kind c.in-Some.ensures.0 c.in-Some.ensures.1
    (λ name. let e = c.is_name.ensures.1 name in let f = c.if-is_name.false in let never : ⊥ = cc in never)

pub returns-then-is_text : goal.returns-then-is_text
returns-then-is_text c =
    idling c.args.word.now c.args.rest.now c.requires c.in_ok-inner.inner.now c.in_ok-inner.ensures (c.is_idle_word.ensures.0 c.if-is_idle_word.true)
    (c.is_text.ensures.0 c.if-is_text.true)

pub returns-else-is_idle_word : goal.returns-else-is_idle_word
returns-else-is_idle_word c =
    neither c.args.word.now c.args.rest.now c.requires c.in_ok-inner.inner.now c.in_ok-inner.ensures c.in_default.ensures
    (λ idle text.
    elim c.else-is_idle_word.branch [
      | else-is_idle_word-via-then-is_idle_word+else-is_text w ↦
          let e = w.is_text.ensures.1 text in let f = w.if-is_text.false in let never : ⊥ = cc in never
      | else-is_idle_word-via-else-is_idle_word w ↦
          let e = c.is_idle_word.ensures.1 idle in let f = w.if-is_idle_word.false in let never : ⊥ = cc in never
    ])
