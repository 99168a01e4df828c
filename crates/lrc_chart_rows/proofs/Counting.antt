-- Counts of turns, with one turn more.
use Rattle.std.proofs.Common.{◌≡◌, ◌∙◌, ◌+◌, ◌<◌, ◌++◌, ◌∷◌, [], ℕ, List, ap, sym, arith, inl, inr, length}
use Rattle.std.specs.Prelude.{Bool, cond, ◌==◌, replicate, slice_index, slice_set}
use Rattle.std.specs.List.{count_by}
use Rattle.std.proofs.lemmas.Bool.{cases_eq, eq-eqb, ne_eqb}
use Rattle.std.proofs.lemmas.List.{get_or-replicate, get_or-set_other, get_or-set_same}
use Rattle.std.proofs.lemmas.List.Sums.{sum_by-append}
use Rattle.lrc_turns_text.specs.Turns.{Made, made_by}
use Rattle.lrc_chart_rows.specs.Counts.{Counts}

abbrev once : Bool → ℕ
once b = cond b 1 0

-- one item more is counted, or not
pub count_push : {X : Type 0} (p : X → Bool) (xs : List X) (x : X) → count_by p (xs ++ x ∷ []) ≡ count_by p xs + cond (p x) 1 0
count_push p xs x =
    let both = sum_by-append (λ y. cond (p y) 1 0) xs (x ∷ []) in
    omega arith

-- nothing is counted before the first turn
pub counts_none : (counts : List ℕ) → counts ≡ replicate 256 0 → Counts [] counts
counts_none counts is = λ node within. ap (λ l. slice_index l node) is ∙ get_or-replicate 256 node 0 0 within

-- one turn more
pub counts_more : (turns : List Made) (turn : Made) (old new : List ℕ) → length old ≡ 256 → turn.node < 256
    → new ≡ slice_set old turn.node (slice_index old turn.node + 1) → Counts turns old → Counts (turns ++ turn ∷ []) new
counts_more turns turn old new long few is counts = λ n within.
    let counted = count_push (λ (t : Made). t.node == n) turns turn in
    ap (λ l. slice_index l n) is ∙ elim (cases_eq n turn.node) [
      | inl same ↦
          let now : slice_index (slice_set old turn.node (slice_index old turn.node + 1)) n ≡ slice_index old turn.node + 1 =
          ap (slice_index (slice_set old turn.node (slice_index old turn.node + 1))) same
          ∙ get_or-set_same old turn.node (slice_index old turn.node + 1) 0 (omega (arith, long, few)) in
          let was : slice_index old turn.node ≡ made_by n turns = counts turn.node few ∙ ap (λ m. made_by m turns) (sym same) in
          let hits : once (turn.node == n) ≡ 1 = ap once (eq-eqb turn.node n (sym same)) in
          omega (arith, now, was, hits, counted)
      | inr other ↦
          let now = get_or-set_other old turn.node n (slice_index old turn.node + 1) 0 other in
          let was = counts n within in
          let misses : once (turn.node == n) ≡ 0 = ap once (ne_eqb turn.node n (λ e. other (sym e))) in
          omega (arith, now, was, misses, counted)
    ]
