-- What a map has once a value was put into it.
use Rattle.std.proofs.Common.{◌≡◌, ℕ, inl, inr, sym, ap, ◌∙◌, arith}
use Rattle.std.specs.Prelude.{◌==◌, false, Some, unwrap_or}
use Rattle.std.specs.Ordering.{is_eq, nat_cmp}
use Rattle.std.specs.declared.cmp.Ordering.TheVariants.{Less, Greater}
use Rattle.std.specs.Cmp.{nat_cmp_is}
use Rattle.std.specs.BTreeMap.{BTreeMap, get, is_at, Updates}
use Rattle.std.proofs.lemmas.Bool.{cases_eq, cases_lt, cond-true, cond-false, eq-eqb, ne_eqb}
use Rattle.lrc_exact_copies.specs.declared.copy.Word.{Word}
use Rattle.lrc_exact_copies.specs.declared.copy.Look.{Look}
use Rattle.lrc_exact_copies.specs.Copies.{Puts, no_word, no_look, word_in, look_in}

-- another number is at another key
pub apart_at : (k q : ℕ) → (q ≡ k → ⊥) → is_at (nat_cmp k) q ≡ false
apart_at k q other =
    elim (cases_lt k q) [
      | inl less ↦ ap is_eq (sym (nat_cmp_is k q Less less))
      | inr not_less ↦
          elim (cases_lt q k) [
            | inl more ↦ ap is_eq (sym (nat_cmp_is k q Greater more))
            | inr not_more ↦ absurd (other (omega arith))
          ]
    ]

module _ {V : Type 0} (none : V) (old new : BTreeMap ℕ V) (place : ℕ) (value : V) (updates : Updates nat_cmp old new place (Some value)) where
  pub put : Puts (λ q. unwrap_or (get nat_cmp old q) none) place value (λ q. unwrap_or (get nat_cmp new q) none)
  put q =
      elim (cases_eq q place) [
        | inl same ↦
            ap (λ k. unwrap_or (get nat_cmp new k) none) same
            ∙ ap (λ o. unwrap_or o none) updates.1
            ∙ sym (cond-true (q == place) value (unwrap_or (get nat_cmp old q) none) (eq-eqb q place same))
        | inr other ↦
            ap (λ o. unwrap_or o none) (updates.2 q (apart_at place q other))
            ∙ sym (cond-false (q == place) value (unwrap_or (get nat_cmp old q) none) (ne_eqb q place other))
      ]

pub word-puts : (old new : BTreeMap ℕ Word) (word : ℕ) (held : Word) → Updates nat_cmp old new word (Some held)
    → Puts (word_in old) word held (word_in new)
word-puts old new word held updates = put no_word old new word held updates

pub look-puts : (old new : BTreeMap ℕ Look) (page : ℕ) (look : Look) → Updates nat_cmp old new page (Some look)
    → Puts (look_in old) page look (look_in new)
look-puts old new page look updates = put no_look old new page look updates
