-- A read always has a value that it may give.
use Rattle.std.proofs.Common.{◌≡◌, ℕ, zero, suc, ◌<◌, ◌≤◌, ◌⊎◌, List, length, inl, inr, refl, subst, ap, arith}
use Rattle.std.proofs.lemmas.Bool.{cases_eq, cases_lt}
use Rattle.lrc_trace.specs.declared.act.Act.{Act}
use Rattle.lrc_trace.specs.declared.act.Deed.{Deed}
use Rattle.lrc_trace.specs.declared.act.Deed.TheVariants.{Write}
use Rattle.lrc_trace.specs.Reading.{WrittenBefore, MayRead}
use Rattle.lrc_trace.proofs.Positions.{Does-within, Does-deed, Does-one_deed}
use Rattle.lrc_trace.proofs.HappensBefore.{forward}
use Rattle.lrc_trace.proofs.Intervals.{act_at}
use Rattle.lrc_trace.proofs.Decided.{HappensBefore-decided}

-- the greatest number below n at which a fact holds
pub record Greatest (P : ℕ → Type 0) (n : ℕ) : Type 0 where
  pub place : ℕ
  pub below : place < n
  pub holds : P place
  pub last : (k : ℕ) → k < n → P k → k ≤ place

-- there is one, or the fact holds at none, where it is decided at each
pub greatest_below : (P : ℕ → Type 0) (n : ℕ) → ((k : ℕ) → P k ⊎ (P k → ⊥)) → Greatest P n ⊎ ((k : ℕ) → k < n → P k → ⊥)
greatest_below P zero decided = inr (λ k lt. absurd (omega arith))
greatest_below P (suc n) decided =
    elim (decided n) [
      | inl here ↦ inl (record { place = n; below = omega arith; holds = here; last = λ k lt h. omega arith })
      | inr not_here ↦
          elim (greatest_below P n decided) [
            | inl g ↦
                let below = g.below in
                inl (record {
                  place = g.place;
                  below = omega arith;
                  holds = g.holds;
                  last = λ k lt h.
                      elim (cases_eq k n) [
                        | inl same ↦ absurd (not_here (subst P same h))
                        | inr other ↦ g.last k (omega arith) h
                      ];
                })
            | inr none ↦
                inr (λ k lt h.
                elim (cases_eq k n) [
                  | inl same ↦ not_here (subst P same h)
                  | inr other ↦ none k (omega arith) h
                ])
          ]
    ]

-- a deed writes the word, or does not
writes_or_not : (word : ℕ) (d : Deed) → ((v : ℕ) × (d ≡ Write word v)) ⊎ ((v : ℕ) → d ≡ Write word v → ⊥)
writes_or_not word (Write w v) =
    elim (cases_eq w word) [
      | inl same ↦ inl (v, ap (λ x. Write x v) same)
      | inr apart ↦ inr (λ u e. let same : w ≡ word = cc in apart same)
    ]
writes_or_not word d = inr (λ v e. let never : ⊥ = cc in absurd never)

module _ (run : List Act) (j word : ℕ) where
  -- some value is written to the word at i, and that happens before j
  abbrev pub IsWrittenAt : ℕ → Type 0
  IsWrittenAt i = (v : ℕ) × WrittenBefore run j word i v

  written_or_not : (i : ℕ) → IsWrittenAt i ⊎ (IsWrittenAt i → ⊥)
  written_or_not i = elim (cases_lt i (length run)) [
    | inr past ↦ inr (λ w. let lt = Does-within w.1.write.1 in absurd (omega arith))
    | inl within ↦
        let here = act_at run i within in
        elim (writes_or_not word here.0.deed) [
          | inr other ↦ inr (λ w. other w.0 (Does-one_deed here.1 w.1.write.1))
          | inl (v, is) ↦ elim (HappensBefore-decided run i j) [
            | inl before ↦ inl (v, record { write = (here.0.node, Does-deed is here.1); before = before })
            | inr not ↦ inr (λ w. not w.1.before)
          ]
        ]
  ]

  last_may : (i v : ℕ) → WrittenBefore run j word i v → ((k u : ℕ) → WrittenBefore run j word k u → k ≤ i) → MayRead run j word v
  last_may i v written last = record {
    weak = inr (i, written);
    strong = λ ordered. record {
      none = λ none. absurd (none i v written);
      last = λ k u other.
          let low = other.last i v written in
          let high = last k u other.written in
          let same : k ≡ i = omega arith in
          let e = Does-one_deed written.write.1 (subst (λ m. WrittenBefore run j word m u) same other.written).write.1 in cc;
    };
  }

  pub none_may : ((i v : ℕ) → WrittenBefore run j word i v → ⊥) → MayRead run j word 0
  none_may none = record {
    weak = inl refl;
    strong = λ ordered. record { none = λ unwritten. refl; last = λ i v last. absurd (none i v last.written) };
  }

  -- some value may be read
  pub some_reading : (v : ℕ) × MayRead run j word v
  some_reading = elim (greatest_below IsWrittenAt j written_or_not) [
    | inl g ↦ (g.holds.0, last_may g.place g.holds.0 g.holds.1 (λ k u other. let lt = forward other.before in g.last k (omega arith) (u, other)))
    | inr none ↦ (0, none_may (λ i v w. let lt = forward w.before in none i (omega arith) (v, w)))
  ]
