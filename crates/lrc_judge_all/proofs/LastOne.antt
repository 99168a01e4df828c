-- What was last written to a word is one value.
use Rattle.std.proofs.Common.{◌≡◌, ◌∙◌, ◌<◌, ◌⊎◌, ℕ, zero, suc, List, ap, arith, get_or, inl, inr, length, subst, sym}
use Rattle.std.proofs.lemmas.Bool.{cases_eq, cases_lt}
use Rattle.lrc_trace.specs.declared.act.Act.{Act}
use Rattle.lrc_trace.specs.declared.act.Deed.{Deed}
use Rattle.lrc_trace.specs.declared.act.Deed.TheVariants.{Acquire, Arrive, Depart, End, Print, Quiet, Read, Release, Trap, Write}
use Rattle.lrc_trace.specs.Run.{IsDone}
use Rattle.lrc_trace.proofs.Positions.{Does-deed, Does-one_deed, Does-read, Does-within}
use Rattle.lrc_judge.specs.InOrder.{IsLastWritten}

module _ (word : ℕ) where
  -- a deed writes the word, or does not
  written_by : (d : Deed) → ((v : ℕ) × (d ≡ Write word v)) ⊎ ((v : ℕ) → d ≡ Write word v → ⊥)
  written_by (Write other v) =
      elim (cases_eq other word) [
        | inl same ↦ inl (v, ap (λ w. Write w v) same)
        | inr apart ↦ inr (λ u e. let words : other ≡ word = cc in apart words)
      ]
  written_by Quiet = inr (λ v e. cc)
  written_by (Print value) = inr (λ v e. cc)
  written_by (Read other value) = inr (λ v e. cc)
  written_by (Acquire lock) = inr (λ v e. cc)
  written_by (Release lock) = inr (λ v e. cc)
  written_by Arrive = inr (λ v e. cc)
  written_by Depart = inr (λ v e. cc)
  written_by (Trap cause) = inr (λ v e. cc)
  written_by End = inr (λ v e. cc)

  module _ (run : List Act) where
    -- the word is written at a position, or is not
    written_at : (n : ℕ) → ((v : ℕ) × IsDone run n (Write word v)) ⊎ ((v : ℕ) → IsDone run n (Write word v) → ⊥)
    written_at n =
        let quiet : Act = record { node = 0; deed = Quiet } in
        elim (cases_lt n (length run)) [
          | inr past ↦ inr (λ v (p, h). let lt = Does-within h in absurd (omega arith))
          | inl within ↦
              let here = Does-read run n quiet within in
              elim (written_by (get_or run n quiet).deed) [
                | inl (v, is) ↦ inl (v, ((get_or run n quiet).node, Does-deed is here))
                | inr none ↦ inr (λ v (p, h). none v (Does-one_deed here h))
              ]
        ]

    -- the last of the writes before a position, or that there is none
    pub record IsLastBefore (n : ℕ) : Type 0 where
      pub i : ℕ
      pub v : ℕ
      pub earlier : i < n
      pub done : IsDone run i (Write word v)
      pub last : (k u : ℕ) → i < k → k < n → IsDone run k (Write word u) → ⊥

    last_before : (n : ℕ) → IsLastBefore n ⊎ ((i v : ℕ) → i < n → IsDone run i (Write word v) → ⊥)
    last_before zero = inr (λ i v lt. absurd (omega (arith, lt)))
    last_before (suc n) =
        elim (written_at n) [
          | inl (v, done) ↦ inl (record { i = n; v = v; earlier = omega arith; done = done; last = λ k u above below. absurd (omega (arith, above, below)) })
          | inr none ↦
              elim (last_before n) [
                | inl old ↦
                    inl (record {
                      i = old.i;
                      v = old.v;
                      earlier = omega (arith, old.earlier);
                      done = old.done;
                      last = λ k u above below h.
                          elim (cases_eq k n) [
                            | inl same ↦ none u (subst (λ m. IsDone run m (Write word u)) same h)
                            | inr other ↦ old.last k u above (omega (arith, below, other)) h
                          ];
                    })
                | inr nothing ↦
                    inr (λ i v lt h.
                    elim (cases_eq i n) [
                      | inl same ↦ none v (subst (λ m. IsDone run m (Write word v)) same h)
                      | inr other ↦ nothing i v (omega (arith, lt, other)) h
                    ])
              ]
        ]

    pub last_one : (n a b : ℕ) → IsLastWritten run n word a → IsLastWritten run n word b → a ≡ b
    last_one n a b first second =
        elim (last_before n) [
          | inl found ↦ first.last found.i found.v found.earlier found.done found.last ∙ sym (second.last found.i found.v found.earlier found.done found.last)
          | inr nothing ↦ first.none nothing ∙ sym (second.none nothing)
        ]
