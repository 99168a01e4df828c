-- What acts leave in a word.
use Rattle.std.proofs.Common.{◌≡◌, ◌∙◌, ℕ, zero, suc, ◌+◌, ◌<◌, ◌≤◌, ◌⊎◌, inl, inr, List, length, take, get_or, refl, sym, subst, ap, arith}
use Rattle.std.specs.Prelude.{if◌then◌else◌}
use Rattle.std.proofs.lemmas.Bool.{cases_eq, eq-eqb, ne_eqb}
use Rattle.std.proofs.lemmas.List.Sums.{fold_more}
use Rattle.lrc_trace.specs.declared.act.Act.{Act}
use Rattle.lrc_trace.specs.declared.act.Deed.{Deed}
use Rattle.lrc_trace.specs.declared.act.Deed.TheVariants.{Quiet, Print, Read, Write, Acquire, Release, Arrive, Depart, Trap, End}
use Rattle.lrc_trace.specs.Run.{Does, IsDone}
use Rattle.lrc_trace.proofs.Positions.{Does-deed, Does-one_deed, Does-read}
use Rattle.lrc_judge.specs.InOrder.{IsLastWritten}
use Rattle.lrc_explain.specs.Access.{left_in, stored}

-- a deed writes the word, or leaves what it has
abbrev Stores : ℕ → ℕ → Deed → Type 0
Stores word value deed = ((v : ℕ) × (deed ≡ Write word v) × (stored word value deed ≡ v))
    ⊎ (((v : ℕ) → deed ≡ Write word v → ⊥) × (stored word value deed ≡ value))

stores : (word value : ℕ) (deed : Deed) → Stores word value deed
stores word value (Write w v) =
    elim (cases_eq w word) [
      | inl same ↦ inl (v, ap (λ x. Write x v) same, ap (λ b. if b then v else value) (eq-eqb w word same))
      | inr other ↦ inr (λ u e. let same : w ≡ word = cc in other same, ap (λ b. if b then v else value) (ne_eqb w word other))
    ]
stores word value Quiet = inr (λ u e. let never : ⊥ = cc in never, refl)
stores word value (Print v) = inr (λ u e. let never : ⊥ = cc in never, refl)
stores word value (Read w v) = inr (λ u e. let never : ⊥ = cc in never, refl)
stores word value (Acquire l) = inr (λ u e. let never : ⊥ = cc in never, refl)
stores word value (Release l) = inr (λ u e. let never : ⊥ = cc in never, refl)
stores word value Arrive = inr (λ u e. let never : ⊥ = cc in never, refl)
stores word value Depart = inr (λ u e. let never : ⊥ = cc in never, refl)
stores word value (Trap cause) = inr (λ u e. let never : ⊥ = cc in never, refl)
stores word value End = inr (λ u e. let never : ⊥ = cc in never, refl)

abbrev quiet : Act
quiet = record { node = 0; deed = Quiet }

next : (n : ℕ) → n + 1 ≡ suc n
next n = omega arith

module _ (run : List Act) (word : ℕ) where
  -- a position that writes the word
  written_now : (n node v : ℕ) → Does run n node (Write word v) → IsLastWritten run (n + 1) word v
  written_now n node v here = record {
    none = λ h. absurd (h n v (omega arith) (node, here));
    last = λ i u lt done last.
        elim (cases_eq i n) [
          | inl there ↦
              let both : Write word v ≡ Write word u = Does-one_deed here (subst (λ k. IsDone run k (Write word u)) there done).1 in
              cc
          | inr other ↦ absurd (last n v (omega (arith, lt)) (omega arith) (node, here))
        ];
  }

  -- a position that does not
  written_before : (n value : ℕ) → ((v : ℕ) → IsDone run n (Write word v) → ⊥) → IsLastWritten run n word value → IsLastWritten run (n + 1) word value
  written_before n value absent old = record {
    none = λ h. old.none (λ i v lt. h i v (omega (arith, lt)));
    last = λ i v lt done last.
        elim (cases_eq i n) [
          | inl there ↦ absurd (absent v (subst (λ k. IsDone run k (Write word v)) there done))
          | inr other ↦ old.last i v (omega (arith, lt)) done (λ k u above below. last k u above (omega (arith, below)))
        ];
  }

  pub left_was_written : (n : ℕ) → n ≤ length run → IsLastWritten run n word (left_in word (take n run))
  left_was_written zero le = record { none = λ h. refl; last = λ i v lt. absurd (omega (arith, lt)) }
  left_was_written (suc n) le =
      let lt : n < length run = omega (arith, le) in
      let act = get_or run n quiet in
      let here : Does run n act.node act.deed = Does-read run n quiet lt in
      let value = left_in word (take n run) in
      let old = left_was_written n (omega (arith, le)) in
      let step : left_in word (take (n + 1) run) ≡ stored word value act.deed =
      fold_more (λ (x : ℕ) (a : Act). stored word x a.deed) 0 run n quiet lt in
      subst (λ m. IsLastWritten run m word (left_in word (take m run))) (next n)
      (elim (stores word value act.deed) [
        | inl (v, writes, is) ↦
            subst (λ x. IsLastWritten run (n + 1) word x) (sym (step ∙ is)) (written_now n act.node v (Does-deed writes here))
        | inr (other, is) ↦
            subst (λ x. IsLastWritten run (n + 1) word x) (sym (step ∙ is))
            (written_before n value (λ v (p, d). other v (Does-one_deed here d)) old)
      ])
