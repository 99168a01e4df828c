-- The strong half determines the value that is read.
use Rattle.std.proofs.Common.{◌≡◌, ℕ, zero, suc, ◌<◌, ◌≤◌, List, inl, inr, sym, ◌∙◌, arith}
use Rattle.std.proofs.lemmas.Bool.{cases_eq, cases_lt}
use Rattle.lrc_trace.specs.declared.act.Act.{Act}
use Rattle.lrc_trace.specs.Reading.{WrittenBefore, IsLastWrite, IsLatest, AreOrdered, MayRead}
use Rattle.lrc_trace.proofs.HappensBefore.{forward}

module _ (run : List Act) (j word v w : ℕ) (a : IsLatest run j word v) (b : IsLatest run j word w) (differ : v ≡ w → ⊥) where
  -- where no write after i happens before j, none at i does: it would be the last, and give both values
  none_at : (i x : ℕ) → ((k y : ℕ) → i < k → WrittenBefore run j word k y → ⊥) → WrittenBefore run j word i x → ⊥
  none_at i x none h =
      let last : IsLastWrite run j word i x = record {
        written = h;
        last = λ k y g. elim (cases_lt i k) [ inl later ↦ absurd (none k y later g) | inr le ↦ le ];
      } in
      differ (a.last i x last ∙ sym (b.last i x last))

  -- so where none from bound on does, none does
  none_from : (bound : ℕ) → ((i x : ℕ) → bound ≤ i → WrittenBefore run j word i x → ⊥) → (i x : ℕ) → WrittenBefore run j word i x → ⊥
  none_from zero none i x h = none i x (omega arith) h
  none_from (suc bound) none i x h =
      none_from bound (λ k y le g.
      elim (cases_eq k bound) [
        | inl same ↦ none_at k y (λ m z lt l. none m z (omega arith) l) g
        | inr other ↦ none k y (omega arith) g
      ]) i x h

  contradiction : ⊥
  contradiction =
      let none = none_from j (λ i x le h. let lt = forward h.before in absurd (omega arith)) in
      differ (a.none none ∙ sym (b.none none))

pub one : (run : List Act) (j word v w : ℕ) → IsLatest run j word v → IsLatest run j word w → v ≡ w
one run j word v w a b = elim (cases_eq v w) [ inl same ↦ same | inr differ ↦ absurd (contradiction run j word v w a b differ) ]

-- where the writes that happen before a read are ordered, it may read one value alone
pub one_reading : (run : List Act) (j word v w : ℕ) → AreOrdered run j word → MayRead run j word v → MayRead run j word w → v ≡ w
one_reading run j word v w ordered a b = one run j word v w (a.strong ordered) (b.strong ordered)
