-- Each word in turn.
use Rattle.std.proofs.Common.{◌≡◌, List, ℕ, refl, sym, subst}
use Rattle.std.specs.Prelude.{IsTrue}
use Rattle.lrc_races_lines.specs.Line.{IsIdleWord, begins, ends, enters, exits, requests, branches}
use Rattle.lrc_races_lines.proofs.reading.is_idle_word.Goals as goal

pub returns-then-is : goal.returns-then-is
returns-then-is c = (λ t. subst (λ w. IsIdleWord w) (sym (c.is.ensures.0 c.if-is.true)) begins, λ h. refl)

pub returns-then-is-2 : goal.returns-then-is-2
returns-then-is-2 c = (λ t. subst (λ w. IsIdleWord w) (sym (c.is-2.ensures.0 c.if-is-2.true)) ends, λ h. refl)

pub returns-then-is-3 : goal.returns-then-is-3
returns-then-is-3 c = (λ t. subst (λ w. IsIdleWord w) (sym (c.is-3.ensures.0 c.if-is-3.true)) enters, λ h. refl)

pub returns-then-is-4 : goal.returns-then-is-4
returns-then-is-4 c = (λ t. subst (λ w. IsIdleWord w) (sym (c.is-4.ensures.0 c.if-is-4.true)) exits, λ h. refl)

pub returns-then-is-5 : goal.returns-then-is-5
returns-then-is-5 c = (λ t. subst (λ w. IsIdleWord w) (sym (c.is-5.ensures.0 c.if-is-5.true)) requests, λ h. refl)

pub returns : goal.returns
returns c = (λ t. subst (λ w. IsIdleWord w) (sym (c.is-6.ensures.0 t)) branches, λ h. go c.args.text.now h refl)
  where
    go : (w : List ℕ) → IsIdleWord w → c.args.text.now ≡ w → IsTrue c.is-6.result
    go w begins e = let f = c.is.ensures.1 e in let g = c.if-is.false in let never : ⊥ = cc in absurd never
    go w ends e = let f = c.is-2.ensures.1 e in let g = c.if-is-2.false in let never : ⊥ = cc in absurd never
    go w enters e = let f = c.is-3.ensures.1 e in let g = c.if-is-3.false in let never : ⊥ = cc in absurd never
    go w exits e = let f = c.is-4.ensures.1 e in let g = c.if-is-4.false in let never : ⊥ = cc in absurd never
    go w requests e = let f = c.is-5.ensures.1 e in let g = c.if-is-5.false in let never : ⊥ = cc in absurd never
    go w branches e = c.is-6.ensures.1 e
