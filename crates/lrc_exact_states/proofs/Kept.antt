-- What a key keeps of marks and changes decides as much as they do.
use Rattle.std.proofs.Common.{◌≡◌, ℕ, ◌<◌, ◌⊎◌, List, inl, inr, refl, sym, subst, ap, ◌∙◌, arith}
use Rattle.std.specs.Prelude.{◌-◌, Option, Some, None, nat_le}
use Rattle.std.proofs.lemmas.Bool.{cases_lt, cond-true, cond-false, le-leb, lt-leb}
use Rattle.std.proofs.lemmas.Option.{none-some, same_Some}
use Rattle.lrc_time.specs.Time.{weight_of}
use Rattle.lrc_exact.specs.Memory.{Rank, Word}
use Rattle.lrc_exact_states.specs.Levels.{AreChangesAlike, Change, IsCapped, exact, much, no_change, one_change}
use Rattle.lrc_exact_states.specs.Alike.{IsLow, IsMarkAlike, low, high, IsWordAlike}
use Rattle.lrc_exact_states.specs.Key.{capped_above, change_kept, mark_kept, word_kept}

pub capped_is : (cap bound bound' number number' : ℕ) → capped_above cap bound number ≡ capped_above cap bound' number' → IsCapped cap (number - bound) (number' - bound')
capped_is cap bound bound' number number' e = elim (cases_lt (number - bound) cap) [
  | inl lt ↦ exact (omega (arith, lt, e))
  | inr ge ↦ much ge (omega (arith, ge, e))
]

-- a change, if there is one, is above a bound
abbrev pub IsAbove : ℕ → Option Change → Type 0
IsAbove bound None = Unit {0}
IsAbove bound (Some change) = bound < change.weight

module _ (cap : ℕ) (floor floor' : List ℕ) where
  abbrev bound : ℕ
  bound = weight_of floor

  abbrev bound' : ℕ
  bound' = weight_of floor'

  pub changes_same : (o o' : Option Change) → IsAbove bound o → IsAbove bound' o' → change_kept cap bound o ≡ change_kept cap bound' o'
      → AreChangesAlike cap floor floor' o o'
  changes_same None None above above' e = no_change
  changes_same None (Some change) above above' e =
      absurd (none-some (record { weight = capped_above cap bound' change.weight; value = change.value }) e)
  changes_same (Some change) None above above' e =
      absurd (none-some (record { weight = capped_above cap bound change.weight; value = change.value }) (sym e))
  changes_same (Some change) (Some change') above above' e =
      let same = same_Some (record { weight = capped_above cap bound change.weight; value = change.value })
      (record { weight = capped_above cap bound' change'.weight; value = change'.value }) e in
      one_change (sym (ap (λ (c : Change). c.value) same)) (record {
        above = above;
        above' = above';
        capped = capped_is cap bound bound' change.weight change'.weight (ap (λ (c : Change). c.weight) same);
      })

  -- ---- marks

  -- a mark that is kept
  record IsHigh (limit : ℕ) (mark : Option Rank) : Type 0 where
    rank : Rank
    is : mark ≡ Some rank
    above : limit < rank.weight
    kept : mark_kept cap limit mark ≡ Some (record { weight = capped_above cap limit rank.weight; node = rank.node })

  low_or_high : (limit : ℕ) (mark : Option Rank) → (IsLow limit mark × (mark_kept cap limit mark ≡ None)) ⊎ IsHigh limit mark
  low_or_high limit None = inl (tt, refl)
  low_or_high limit (Some rank) = elim (cases_lt limit rank.weight) [
    | inl lt ↦ inr (record {
      rank = rank;
      is = refl;
      above = lt;
      kept = cond-false (nat_le rank.weight limit) None (Some (record { weight = capped_above cap limit rank.weight; node = rank.node })) (lt-leb rank.weight limit lt);
    })
    | inr le ↦
        inl (
          le,
          cond-true (nat_le rank.weight limit) None (Some (record { weight = capped_above cap limit rank.weight; node = rank.node })) (le-leb rank.weight limit le),
        )
  ]

  marks_same : (mark mark' : Option Rank) → mark_kept cap bound mark ≡ mark_kept cap bound' mark' → IsMarkAlike cap floor floor' mark mark'
  marks_same mark mark' e = elim (low_or_high bound mark) [
    | inl (is_low, none) ↦ elim (low_or_high bound' mark') [
      | inl (is_low', none') ↦ low is_low is_low'
      | inr h ↦ absurd (none-some (record { weight = capped_above cap bound' h.rank.weight; node = h.rank.node }) (sym none ∙ e ∙ h.kept))
    ]
    | inr g ↦ elim (low_or_high bound' mark') [
      | inl (is_low', none') ↦
          absurd (none-some (record { weight = capped_above cap bound g.rank.weight; node = g.rank.node }) (sym none' ∙ sym e ∙ g.kept))
      | inr h ↦ both g h
    ]
  ]
    where
      both : IsHigh bound mark → IsHigh bound' mark' → IsMarkAlike cap floor floor' mark mark'
      both g h =
          let same = same_Some (record { weight = capped_above cap bound g.rank.weight; node = g.rank.node })
          (record { weight = capped_above cap bound' h.rank.weight; node = h.rank.node }) (sym g.kept ∙ e ∙ h.kept) in
          subst (λ (o : Option Rank). IsMarkAlike cap floor floor' o mark') (sym g.is)
          (subst (λ (o : Option Rank). IsMarkAlike cap floor floor' (Some g.rank) o) (sym h.is)
          (high (sym (ap (λ (r : Rank). r.node) same)) (record {
            above = g.above;
            above' = h.above;
            capped = capped_is cap bound bound' g.rank.weight h.rank.weight (ap (λ (r : Rank). r.weight) same);
          })))

  pub words_same : (word word' : Word) → word_kept cap bound word ≡ word_kept cap bound' word' → IsWordAlike cap floor floor' word word'
  words_same word word' e = record {
    value = sym (ap (λ (w : Word). w.value) e);
    mark = marks_same word.mark word'.mark (ap (λ (w : Word). w.mark) e);
  }
