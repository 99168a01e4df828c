-- The racing pairs of a later position, and of all of them.
use Rattle.std.proofs.Common.{◌≡◌, ◌∙◌, ◌<◌, ◌≤◌, ◌+◌, ◌⊎◌, ℕ, zero, suc, List, [], ◌∷◌, ◌++◌, Less, Equal, length, get_or, map, inl, inr, refl, sym, ap, subst, arith}
use Rattle.std.specs.Prelude.{◌↔◌, Contains}
use Rattle.std.specs.Ordering.{nat_cmp, ordering_then}
use Rattle.std.specs.Cmp.{IsTotalOrder}
use Rattle.std.specs.List.{flat_map, range_with_len}
use Rattle.std.specs.List.Sorted.{IsStrictlySortedBy}
use Rattle.std.proofs.lemmas.Bool.{cases_lt, eq-eqb, le-ltb, lt-ltb}
use Rattle.std.proofs.lemmas.Cmp.{nat_cmp_total, on_total, then_total}
use Rattle.std.proofs.lemmas.List.Concat.{flat_map-append}
use Rattle.std.proofs.lemmas.List.Elements.{Contains-append_cases, Contains-append_left, Contains-append_right}
use Rattle.std.proofs.lemmas.List.FromFn.{get_or-map-range_with_len, length-map-range_with_len}
use Rattle.std.proofs.lemmas.List.Kept.{IsStrictlySortedBy-filter}
use Rattle.std.proofs.lemmas.Map.Keys.{sorted_from_all_adjacent}
use Rattle.lrc_trace.specs.declared.act.Act.{Act}
use Rattle.lrc_trace.specs.Conflict.{IsRaceFree, Races}
use Rattle.lrc_judge.specs.Order.{IsOrderOf}
use Rattle.lrc_judge.specs.Pairs.{ArePairsWithLater, AreRacingPairs, pair_cmp}
use Rattle.lrc_judge.specs.declared.lanes.Pair.{Pair}
use Rattle.lrc_judge.specs.declared.order.Order.{Order}
use Rattle.lrc_acts.specs.JudgeLines.{pair_line}
use Rattle.lrc_judge_text.specs.Judgement.{accesses_at, pair_lines}
use Rattle.lrc_judge_text.specs.RacingPairs.{is_racing, lines_from, pair_of, pairs_at}
use Rattle.lrc_judge.proofs.Strictly.{joined-ascending, same-lists, Contains-first, filter-Contains, none_Contains}
use Rattle.lrc_judge_text.proofs.Racing.{races-racing, racing-races}
use Rattle.lrc_judge_text.proofs.Within.{race_within}

-- ---- the order of pairs

pair_total : IsTotalOrder pair_cmp
pair_total = then_total (on_total (λ (p : Pair). p.later) nat_cmp_total) (on_total (λ (p : Pair). p.earlier) nat_cmp_total)

less : (m n : ℕ) → m < n → nat_cmp m n ≡ Less
less m n below = rw (lt-ltb m n below) refl

same_later : (later i j : ℕ) → i < j → pair_cmp (pair_of later i) (pair_of later j) ≡ Less
same_later later i j below =
    let equal : nat_cmp later later ≡ Equal = rw (le-ltb later later (omega arith), eq-eqb later later refl) refl in
    ap (λ o. ordering_then o (nat_cmp i j)) equal ∙ less i j below

sooner : (a b : Pair) → a.later < b.later → pair_cmp a b ≡ Less
sooner a b below = ap (λ o. ordering_then o (nat_cmp a.earlier b.earlier)) (less a.later b.later below)

-- two lists of the racing pairs of one later position are one
pub one-list : (run : List Act) (later : ℕ) (xs ys : List Pair) → ArePairsWithLater run later xs → ArePairsWithLater run later ys → xs ≡ ys
one-list run later xs ys first second =
    same-lists pair_cmp pair_total xs ys first.ascending second.ascending (λ pair there. (second.exact pair).1 ((first.exact pair).0 there))
    (λ pair there. (first.exact pair).1 ((second.exact pair).0 there))

-- ---- the pairs of a later position with all earlier ones

module _ (later : ℕ) where
  abbrev candidates : List Pair
  candidates = map (pair_of later) (range_with_len 0 later)

  candidates-ascend : IsStrictlySortedBy pair_cmp candidates
  candidates-ascend =
      let nothing = pair_of 0 0 in
      sorted_from_all_adjacent pair_total candidates nothing (λ k within.
      let many = length-map-range_with_len (pair_of later) 0 later in
      let first : get_or candidates k nothing ≡ pair_of later k = get_or-map-range_with_len (pair_of later) 0 later k k nothing (omega arith) (omega arith) in
      let second : get_or candidates (k + 1) nothing ≡ pair_of later (k + 1) =
      get_or-map-range_with_len (pair_of later) 0 later (k + 1) (k + 1) nothing (omega arith) (omega arith) in
      subst (λ (p : Pair). pair_cmp p (get_or candidates (k + 1) nothing) ≡ Less) (sym first)
      (subst (λ (p : Pair). pair_cmp (pair_of later k) p ≡ Less) (sym second) (same_later later k (k + 1) (omega arith))))

  candidates-exact : (pair : Pair) → Contains candidates pair ↔ ((pair.later ≡ later) × (pair.earlier < pair.later))
  candidates-exact pair = (
    λ (k, within, is).
        let many = length-map-range_with_len (pair_of later) 0 later in
        let at : pair_of later k ≡ pair = sym (get_or-map-range_with_len (pair_of later) 0 later k k pair (omega arith) (omega arith)) ∙ is in
        let later_is : later ≡ pair.later = ap (λ (p : Pair). p.later) at in
        let earlier_is : k ≡ pair.earlier = ap (λ (p : Pair). p.earlier) at in
        (sym later_is, omega arith),
    λ (at, below).
        let many = length-map-range_with_len (pair_of later) 0 later in
        let within : pair.earlier < later = omega arith in
        let same : pair_of later pair.earlier ≡ pair = ap (λ (l : ℕ). pair_of l pair.earlier) (sym at) in
        (pair.earlier, omega arith, get_or-map-range_with_len (pair_of later) 0 later pair.earlier pair.earlier pair within (omega arith) ∙ same),
  )

module _ (run : List Act) (order : Order) (is : IsOrderOf run order) where
  pub pairs-at : (later : ℕ) → later < length run → ArePairsWithLater run later (pairs_at order run later)
  pairs-at later within = record {
    ascending = IsStrictlySortedBy-filter pair_cmp (is_racing order run) (candidates later) (candidates-ascend later);
    exact = λ pair.
        let kept = filter-Contains (is_racing order run) (candidates later) pair in
        let candidate = candidates-exact later pair in (
          λ there.
              let (in_all, racing) = kept.0 there in
              let (at, earlier) = candidate.0 in_all in
              (at, racing-races run order is pair earlier (subst (λ n. n < length run) (sym at) within) racing),
          λ (at, race). kept.1 (candidate.1 (at, race.earlier), races-racing run order is pair race),
        );
  }

  -- ---- those of many later positions

  abbrev pairs_from : ℕ → ℕ → List Pair
  pairs_from position many = flat_map (pairs_at order run) (range_with_len position many)

  record ArePairsFrom (position many : ℕ) (pairs : List Pair) : Type 0 where
    ascending : IsStrictlySortedBy pair_cmp pairs
    exact : (pair : Pair) → Contains pairs pair ↔ ((position ≤ pair.later) × (pair.later < position + many) × Races run pair.earlier pair.later)

  from : (many position : ℕ) → position + many ≤ length run → ArePairsFrom position many (pairs_from position many)
  unfolding IsStrictlySortedBy
  from zero position within = record {
    ascending = tt;
    exact = λ pair. (λ there. absurd (none_Contains pair there), λ (low, high, race). absurd (omega arith));
  }
  from (suc many) position within =
      let first = pairs-at position (omega arith) in
      let rest = from many (position + 1) (omega arith) in
      let these = pairs_at order run position in
      let others = pairs_from (position + 1) many in
      record {
        ascending = joined-ascending pair_cmp these others first.ascending rest.ascending (λ a b there here.
            let at = ((first.exact a).0 there).0 in
            let above = ((rest.exact b).0 here).0 in
            sooner a b (omega arith));
        exact = λ pair. (
          λ there. elim (Contains-append_cases these others pair there) [
            | inl here ↦ let (at, race) = (first.exact pair).0 here in (omega arith, omega arith, race)
            | inr behind ↦ let (low, high, race) = (rest.exact pair).0 behind in (omega arith, omega arith, race)
          ],
          λ (low, high, race). elim (cases_at position pair.later low) [
            | inl at ↦ Contains-append_left these others pair ((first.exact pair).1 (at, race))
            | inr above ↦ Contains-append_right these others pair ((rest.exact pair).1 (above, omega arith, race))
          ],
        );
      }
    where
      cases_at : (m n : ℕ) → m ≤ n → (n ≡ m) ⊎ (m + 1 ≤ n)
      cases_at m n low = elim (cases_lt m n) [ inl below ↦ inr (omega arith) | inr above ↦ inl (omega arith) ]

  abbrev pub all_pairs : List Pair
  all_pairs = pairs_from 0 (length run)

  pub all-pairs : AreRacingPairs run all_pairs
  all-pairs =
      let all = from (length run) 0 (omega arith) in
      record {
        ascending = all.ascending;
        exact = λ pair. (
          λ there. ((all.exact pair).0 there).2,
          λ race. let within = race_within race in (all.exact pair).1 (omega arith, omega arith, race),
        );
      }

  -- ---- their lines

  lines_of_joined : (positions : List ℕ) → pair_lines run (flat_map (pairs_at order run) positions)
      ≡ flat_map (λ later. pair_lines run (pairs_at order run later)) positions
  lines_of_joined [] = refl
  lines_of_joined (later ∷ positions) =
      flat_map-append (λ (pair : Pair). pair_line (accesses_at run pair.earlier pair.later)) (pairs_at order run later)
      (flat_map (pairs_at order run) positions)
      ∙ ap (λ (text : List ℕ). pair_lines run (pairs_at order run later) ++ text) (lines_of_joined positions)

  pub lines-are : pair_lines run all_pairs ≡ lines_from order run 0 (length run)
  lines-are = lines_of_joined (range_with_len 0 (length run))

  none_there : (pairs : List Pair) → ((pair : Pair) → Contains pairs pair → ⊥) → pairs ≡ []
  none_there [] none = refl
  none_there (pair ∷ pairs) none = absurd (none pair (Contains-first pair pairs))

  -- without a race there is no line
  pub no-lines : IsRaceFree run → lines_from order run 0 (length run) ≡ []
  no-lines free =
      sym lines-are ∙ ap (pair_lines run) (none_there all_pairs (λ pair there. free pair.earlier pair.later ((all-pairs.exact pair).0 there)))
