-- What an open interval changed, word by word.
use Rattle.std.proofs.Common.{◌≡◌, ℕ, ◌+◌, Bool, true, false, cond, List, [], ◌∷◌, ◌++◌, ◌<◌, ◌≢◌, length, take, get_or, inl, inr, refl, sym, subst, ap, ◌∙◌}
use Rattle.std.specs.Prelude.{Option, Some, None}
use Rattle.std.proofs.lemmas.Bool.{cases_eq, cases_Bool, cond-true, cond-false, eq-eqb, ne_eqb}
use Rattle.std.specs.Prelude.{◌==◌}
use Rattle.std.proofs.lemmas.List.{take_more}
use Rattle.lrc_exact.specs.Rule.{change_of}
use Rattle.lrc_exact_copies.specs.declared.copy.Word.{Word}
use Rattle.lrc_exact_copies.specs.Copies.{before_of}
use Rattle.lrc_exact_copies.specs.declared.made.Change.{Change}
use Rattle.lrc_exact_copies.specs.Made.{change_in, has}
use Rattle.lrc_exact_copies.proofs.Copying.{has-push_here, has-push_other}
use Rattle.lrc_exact_copies.proofs.Learned.{change-had, change-new, change-other}

module _ (change : ℕ → Option ℕ) (seen : List ℕ) (xs : List Change) (word : ℕ)
    (old : (w : ℕ) → change_in xs w ≡ cond (has seen w) (change w) None) where
  -- the word is changed
  pub changed-more : (v : ℕ) → change word ≡ Some v → (w : ℕ)
      → change_in (xs ++ record { word = word; value = v } ∷ []) w ≡ cond (has (seen ++ word ∷ []) w) (change w) None
  changed-more v is w =
      let c : Change = record { word = word; value = v } in
      elim (cases_eq w word) [
        | inr other ↦
            change-other xs c w (λ e. other (sym e)) ∙ old w
            ∙ ap (λ b. cond b (change w) None) (sym (has-push_other seen word w other))
        | inl here ↦
            elim (cases_Bool (has seen w)) [
              | inl there ↦
                  change-had xs c w v (old w ∙ cond-true (has seen w) (change w) None there ∙ ap change here ∙ is)
                  ∙ sym (cond-true (has (seen ++ word ∷ []) w) (change w) None (has-push_here seen word w here) ∙ ap change here ∙ is)
              | inr absent ↦
                  change-new xs c w (sym here) (old w ∙ cond-false (has seen w) (change w) None absent)
                  ∙ sym (cond-true (has (seen ++ word ∷ []) w) (change w) None (has-push_here seen word w here) ∙ ap change here ∙ is)
            ]
      ]

  -- the word is as it was
  pub changed-same : change word ≡ None → (w : ℕ) → change_in xs w ≡ cond (has (seen ++ word ∷ []) w) (change w) None
  changed-same none w =
      elim (cases_eq w word) [
        | inr other ↦ old w ∙ ap (λ b. cond b (change w) None) (sym (has-push_other seen word w other))
        | inl here ↦
            let nothing : change w ≡ None = ap change here ∙ none in
            old w
            ∙ ap (λ o. cond (has seen w) o None) nothing
            ∙ same (has seen w)
            ∙ sym (ap (λ o. cond (has (seen ++ word ∷ []) w) o None) nothing ∙ same (has (seen ++ word ∷ []) w))
      ]
    where
      same : (b : Bool) → cond {A = Option ℕ} b None None ≡ None
      same true = refl
      same false = refl

-- what the interval changed of the words so far, and of one word more
module _ (index : ℕ) (words : ℕ → Word) (all : List ℕ) (i : ℕ) (within : i < length all) (held : Word) (is : held ≡ words (get_or all i 0))
    (xs : List Change) where
  abbrev changed_of : ℕ → Option ℕ
  changed_of w = change_of (before_of index (words w)) (words w).value

  abbrev HasChanges : List Change → List ℕ → Type 0
  HasChanges ys seen = (w : ℕ) → change_in ys w ≡ cond (has seen w) (changed_of w) None

  held_of : changed_of (get_or all i 0) ≡ change_of (before_of index held) held.value
  held_of = ap (λ (k : Word). change_of (before_of index k) k.value) (sym is)

  one_more : take (i + 1) all ≡ take i all ++ get_or all i 0 ∷ []
  one_more = take_more all i 0 within

  pub step-changed : held.written ≡ index → held.before ≢ held.value → HasChanges xs (take i all)
      → HasChanges (xs ++ record { word = get_or all i 0; value = held.value } ∷ []) (take (i + 1) all)
  step-changed open_ other old =
      subst (HasChanges (xs ++ record { word = get_or all i 0; value = held.value } ∷ [])) (sym one_more)
      (changed-more changed_of (take i all) xs (get_or all i 0) old held.value
      (held_of
      ∙ ap (λ o. change_of o held.value) (cond-true (held.written == index) (Some held.before) None (eq-eqb held.written index open_))
      ∙ cond-false (held.before == held.value) None (Some held.value) (ne_eqb held.before held.value other)))

  none-changed : changed_of (get_or all i 0) ≡ None → HasChanges xs (take i all) → HasChanges xs (take (i + 1) all)
  none-changed none old = subst (HasChanges xs) (sym one_more) (changed-same changed_of (take i all) xs (get_or all i 0) old none)

  pub step-silent : held.written ≡ index → held.before ≡ held.value → HasChanges xs (take i all) → HasChanges xs (take (i + 1) all)
  step-silent open_ same old =
      none-changed
      (held_of
      ∙ ap (λ o. change_of o held.value) (cond-true (held.written == index) (Some held.before) None (eq-eqb held.written index open_))
      ∙ cond-true (held.before == held.value) None (Some held.value) (eq-eqb held.before held.value same)) old

  pub step-closed : held.written ≢ index → HasChanges xs (take i all) → HasChanges xs (take (i + 1) all)
  step-closed other old =
      none-changed
      (held_of
      ∙ ap (λ o. change_of o held.value) (cond-false (held.written == index) (Some held.before) None (ne_eqb held.written index other))) old
