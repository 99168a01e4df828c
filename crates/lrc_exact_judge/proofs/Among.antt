-- What is known is among the intervals that were closed, whatever is learned and closed.
use Rattle.std.proofs.Common.{◌≡◌, ◌≢◌, ℕ, zero, suc, ◌+◌, ◌<◌, ◌≤◌, ◌&&◌, List, [], ◌∷◌, ◌++◌, length}
use Rattle.std.proofs.Common.{inl, inr, refl, sym, ap, ◌∙◌, arith}
use Rattle.std.specs.Prelude.{◌==◌, Option, Some, None, Vec, nat_le, slice_get}
use Rattle.std.specs.declared.alloc.Global.{Global}
use Rattle.std.proofs.lemmas.Bool.{cases_eq, cases_lt, cond-true, cond-false, le-leb, lt-leb, eq-eqb, ne_eqb, and_from, and_left, and_right}
use Rattle.std.proofs.lemmas.List.{length_push}
use Rattle.lrc_trace.proofs.Positions.{slice_get-front, slice_get-seam}
use Rattle.lrc_time.specs.Time.{entry}
use Rattle.lrc_time.proofs.Times.{entry-zeros, entry-joined, entry-set_same, entry-set_other}
use Rattle.lrc_exact.specs.Memory.{Interval}
use Rattle.lrc_exact.specs.Rule.{State, Knowledge, nothing_known, known_together, known_by_all, with_arrived, with_interval}
use Rattle.lrc_exact_copies.specs.declared.made.Made.{Made}
use Rattle.lrc_exact_copies.specs.Made.{AreAmong, in_row, interval_of, interval_or, row_of}

pub nothing-among : (made : List (Vec Made Global)) (nodes : ℕ) → AreAmong made (nothing_known nodes)
nothing-among made nodes = record {
  there = λ node. let none = entry-zeros nodes node in omega arith;
  is = λ node index lt. let none = entry-zeros nodes node in absurd (omega arith);
}

pub together-among : (made : List (Vec Made Global)) (mine yours : Knowledge) → AreAmong made mine → AreAmong made yours
    → AreAmong made (known_together mine yours)
together-among made mine yours a b = record {
  there = λ node.
      let both = entry-joined mine.time yours.time node in
      let x = a.there node in
      let y = b.there node in
      omega arith;
  is = λ node index lt.
      let both = entry-joined mine.time yours.time node in
      elim (cases_lt index (entry mine.time node)) [
        | inl known ↦
            cond-true (nat_le (suc index) (entry mine.time node)) (mine.interval node (suc index)) (yours.interval node (suc index))
            (le-leb (suc index) (entry mine.time node) (omega arith))
            ∙ a.is node index known
        | inr new ↦
            cond-false (nat_le (suc index) (entry mine.time node)) (mine.interval node (suc index)) (yours.interval node (suc index))
            (lt-leb (suc index) (entry mine.time node) (omega arith))
            ∙ b.is node index (omega arith)
      ];
}

-- what is known to all at their arrives
pub all-among : (made : List (Vec Made Global)) (n width : ℕ) (arrived : ℕ → Option State)
    → ((p : ℕ) (s : State) → arrived p ≡ Some s → AreAmong made s.knows) → AreAmong made (known_by_all n width arrived)
all-among made zero width arrived each = nothing-among made width
all-among made (suc n) width arrived each =
    go (arrived n) refl (all-among made n width arrived each)
  where
    go : (o : Option State) → arrived n ≡ o → AreAmong made (known_by_all n width arrived)
        → AreAmong made (with_arrived o (known_by_all n width arrived))
    go None e h = h
    go (Some s) e h = together-among made (known_by_all n width arrived) s.knows h (each n s e)

-- ---- one interval more

-- rows of which one has one interval more
pub record AreRowsWith (made made' : List (Vec Made Global)) (node : ℕ) (more : Made) : Type 0 where
  pub own : row_of made' node ≡ row_of made node ++ more ∷ []
  pub others : (q : ℕ) → q ≢ node → row_of made' q ≡ row_of made q

module _ (made made' : List (Vec Made Global)) (node : ℕ) (more : Made) (grown : AreRowsWith made made' node more) where
  pub row-longer : (q : ℕ) → length (row_of made q) ≤ length (row_of made' q)
  row-longer q =
      elim (cases_eq q node) [
        | inl same ↦
            let e = ap (λ p. length (row_of made' p)) same ∙ ap length grown.own ∙ length_push (row_of made node) more in
            let f = ap (λ p. length (row_of made p)) same in
            omega arith
        | inr other ↦ let e = ap length (grown.others q other) in omega arith
      ]

  in-old : (q index : ℕ) → index < length (row_of made q) → in_row (row_of made' q) (suc index) ≡ in_row (row_of made q) (suc index)
  in-old q index lt =
      elim (cases_eq q node) [
        | inl same ↦
            let f = ap (λ p. length (row_of made p)) same in
            ap (λ p. interval_or (slice_get (row_of made' p) index)) same
            ∙ ap (λ row. interval_or (slice_get row index)) grown.own
            ∙ ap interval_or (slice_get-front (row_of made node) (more ∷ []) index (omega arith))
            ∙ ap (λ p. interval_or (slice_get (row_of made p) index)) (sym same)
        | inr other ↦ ap (λ row. interval_or (slice_get row index)) (grown.others q other)
      ]

  pub still-among : (knows : Knowledge) → AreAmong made knows → AreAmong made' knows
  still-among knows a = record {
    there = λ q. let x = a.there q in let y = row-longer q in omega arith;
    is = λ q index lt. a.is q index lt ∙ sym (in-old q index (let x = a.there q in omega arith));
  }

  -- the node knows it
  pub closed-among : (knows : Knowledge) (interval : Interval) → AreAmong made knows → node < length knows.time
      → entry knows.time node ≡ length (row_of made node) → interval_of more ≡ interval → AreAmong made' (with_interval node interval knows)
  closed-among knows interval a within own is = record {
    there = λ q.
        elim (cases_eq q node) [
          | inl same ↦
              let e = entry-set_same knows.time node (entry knows.time node + 1) within in
              let f = ap (entry (with_interval node interval knows).time) same in
              let g = ap (λ p. length (row_of made' p)) same ∙ ap length grown.own ∙ length_push (row_of made node) more in
              omega arith
          | inr other ↦
              let e = entry-set_other knows.time node (entry knows.time node + 1) q other in
              let x = a.there q in
              let y = row-longer q in
              omega arith
        ];
    is = λ q index lt.
        elim (cases_eq q node) [
          | inr other ↦
              let e = entry-set_other knows.time node (entry knows.time node + 1) q other in
              let x = a.there q in
              cond-false ((q == node) && (suc index == entry knows.time node + 1)) interval (knows.interval q (suc index))
              (and_left (q == node) (suc index == entry knows.time node + 1) (ne_eqb q node other))
              ∙ a.is q index (omega arith)
              ∙ sym (in-old q index (omega arith))
          | inl same ↦
              let e = entry-set_same knows.time node (entry knows.time node + 1) within in
              let f = ap (entry (with_interval node interval knows).time) same in
              let x = a.there q in
              let k = ap (entry knows.time) same in
              elim (cases_eq index (entry knows.time node)) [
                | inl last ↦
                    cond-true ((q == node) && (suc index == entry knows.time node + 1)) interval (knows.interval q (suc index))
                    (and_from (q == node) (suc index == entry knows.time node + 1) (eq-eqb q node same)
                    (eq-eqb (suc index) (entry knows.time node + 1) (omega arith)))
                    ∙ sym is
                    ∙ ap interval_or (sym (slice_get-seam (row_of made node) more []))
                    ∙ ap (λ row. interval_or (slice_get row (length (row_of made node)))) (sym grown.own)
                    ∙ ap (λ n. interval_or (slice_get (row_of made' node) n)) (sym (last ∙ own))
                    ∙ ap (λ p. interval_or (slice_get (row_of made' p) index)) (sym same)
                | inr earlier ↦
                    cond-false ((q == node) && (suc index == entry knows.time node + 1)) interval (knows.interval q (suc index))
                    (and_right (q == node) (suc index == entry knows.time node + 1)
                    (ne_eqb (suc index) (entry knows.time node + 1) (λ g. earlier (omega arith))))
                    ∙ a.is q index (omega arith)
                    ∙ sym (in-old q index (omega arith))
              ]
        ];
  }
