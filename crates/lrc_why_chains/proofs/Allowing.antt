-- What a read may give, by the writes that are known there.
use Rattle.std.proofs.Common.{◌≡◌, ℕ, ◌⊎◌, List, inl, inr, subst, sym, ◌∙◌, arith}
use Rattle.std.specs.Prelude.{◌↔◌}
use Rattle.lrc_trace.specs.declared.act.Act.{Act}
use Rattle.lrc_trace.specs.declared.act.Deed.TheVariants.{Write}
use Rattle.lrc_trace.specs.Run.{IsDone}
use Rattle.lrc_trace.specs.Reading.{WrittenBefore, AreOrdered, MayRead}
use Rattle.lrc_trace.proofs.Positions.{Does-one_deed}
use Rattle.lrc_trace.proofs.Decided.{HappensBefore-decided}
use Rattle.lrc_why_chains.specs.Writes.{IsKnownWrite, IsLastKnownWrite, IsCrossing}
use Rattle.lrc_why_chains.proofs.KnownWrites.{beside_crosses}

module _ (run : List Act) (position word : ℕ) where
  -- where no two of them race, any two are ordered
  pub ordered_without_crossing : ((k l : ℕ) → IsCrossing run position word k l → ⊥) → AreOrdered run position word
  ordered_without_crossing none i k u v wi wk lt =
      elim (HappensBefore-decided run i k) [
        | inl before ↦ before
        | inr beside ↦ absurd (none i k (beside_crosses run position word i k (u, wi) (v, wk) lt beside))
      ]

  one_value : (i u v : ℕ) → IsDone run i (Write word u) → IsDone run i (Write word v) → u ≡ v
  one_value i u v (p, first) (q, second) = let both : Write word u ≡ Write word v = Does-one_deed first second in cc

  pub may_last : (i value : ℕ) → IsLastKnownWrite run position word i → IsDone run i (Write word value)
      → ((k l : ℕ) → IsCrossing run position word k l → ⊥) → (given : ℕ) → MayRead run position word given ↔ (given ≡ value)
  may_last i value last done none given =
      let (u, w) = last.known in
      let here : WrittenBefore run position word i value = record { write = done; before = w.before } in (
        λ m. (m.strong (ordered_without_crossing none)).last i value (record { written = here; last = λ k v wk. last.last k (v, wk) }),
        λ is. record {
          weak = inr (i, subst (λ v. WrittenBefore run position word i v) (sym is) here);
          strong = λ o. record {
            none = λ nothing. absurd (nothing i value here);
            last = λ k v l.
                let le = last.last k (v, l.written) in
                let ge = l.last i value here in
                let same : k ≡ i = omega (arith, le, ge) in
                is ∙ one_value i value v done (subst (λ n. IsDone run n (Write word v)) same l.written.write);
          };
        },
      )

  pub may_nothing : ((i : ℕ) → IsKnownWrite run position word i → ⊥) → (given : ℕ) → MayRead run position word given ↔ (given ≡ 0)
  may_nothing none given = (
    λ m. (m.strong (λ i k u v wi wk lt. absurd (none i (u, wi)))).none (λ i v w. none i (v, w)),
    λ is. record { weak = inl is; strong = λ o. record { none = λ _. is; last = λ i v l. absurd (none i (v, l.written)) } },
  )

  pub may_any : (i j : ℕ) → IsCrossing run position word i j
      → (given : ℕ) → MayRead run position word given ↔ ((given ≡ 0) ⊎ ((k : ℕ) × WrittenBefore run position word k given))
  may_any i j crossing given = (
    λ m. m.weak,
    λ h. record {
      weak = h;
      strong = λ o.
          let (u, wi) = crossing.earlier in
          let (v, wj) = crossing.later in
          absurd (crossing.races.unordered (o i j u v wi wj crossing.races.earlier));
    },
  )
