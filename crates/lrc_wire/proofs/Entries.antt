-- Entries of a time, which are read at once where there are bytes enough.
use Rattle.std.proofs.Common.{◌≡◌, ◌≢◌, ℕ, zero, suc, ◌+◌, ◌*◌, ◌<◌, ◌≤◌, true, false, not, ◌||◌, eqb, ltb, leb, List, length, take, drop}
use Rattle.std.proofs.Common.{Some, None, Ok, Err, refl, subst, arith, inl, inr, length-drop}
use Rattle.std.specs.Int.{w32, from_be_bytes}
use Rattle.std.proofs.lemmas.Bool.{lt-ltb, le-ltb, le-leb, eq-eqb, ne_eqb, cases_lt, cases_eq, or_left, or_right, not_from_false}
use Rattle.std.proofs.lemmas.List.{drop-drop}
use Rattle.lrc_wire.specs.declared.fault.WireFault.TheVariants.{Short, BadCount}
use Rattle.lrc_wire.specs.Reading.{elements_at, tested, number_at, entry_at, entries_at}

-- a number that the bytes have
pub number_read : (bytes : List ℕ) → 4 ≤ length bytes → number_at w32 bytes ≡ Ok (from_be_bytes w32 (take 4 bytes), drop 4 bytes)
unfolding number_at
number_read bytes le =
    let long : ltb (length bytes) 4 ≡ false = le-ltb (length bytes) 4 le in
    rw long refl

number_short : (bytes : List ℕ) → length bytes < 4 → number_at w32 bytes ≡ Err Short
unfolding number_at
number_short bytes lt =
    let short : ltb (length bytes) 4 ≡ true = lt-ltb (length bytes) 4 lt in
    rw short refl

-- too few bytes for so many entries
pub entries_short : (count node : ℕ) (bytes : List ℕ) → length bytes < 4 * count
    → elements_at (entry_at None) (λ node _. node + 1) count node bytes ≡ Err Short
unfolding elements_at entry_at
entries_short zero node bytes lt = absurd (omega arith)
entries_short (suc count) node bytes lt =
    elim (cases_lt (length bytes) 4) [
      | inl few ↦ rw (number_short bytes few) refl
      | inr le ↦ let fewer : length (drop 4 bytes) < 4 * count = omega (arith, length-drop 4 bytes) in
          rw (number_read bytes le, entries_short count (node + 1) (drop 4 bytes) fewer) refl
    ]

eqb-same : (n : ℕ) → eqb n n ≡ true
eqb-same n = eq-eqb n n refl

above_zero : (n : ℕ) → n ≢ 0 → 1 ≤ n
above_zero n ne = omega arith

-- a stamp's own entry is 0
pub own_zero : (own count node k : ℕ) (bytes : List ℕ) → own ≡ node + k → k < count → 4 * k + 4 ≤ length bytes
    → from_be_bytes w32 (take 4 (drop (4 * k) bytes)) ≡ 0
    → elements_at (entry_at (Some own)) (λ node _. node + 1) count node bytes ≡ Err BadCount
unfolding elements_at entry_at tested
own_zero own zero node k bytes same lt le is = absurd (omega arith)
own_zero own (suc count) node zero bytes same lt le is =
    let at : node ≡ own = omega arith in
    let here : (not (eqb node own) || leb 1 (from_be_bytes w32 (take 4 bytes))) ≡ false = rw (at, eqb-same own, is) refl in
    rw (number_read bytes le, here) refl
own_zero own (suc count) node (suc k) bytes same lt le is =
    let some : 4 ≤ length bytes = omega arith in
    let other : (not (eqb node own) || leb 1 (from_be_bytes w32 (take 4 bytes))) ≡ true =
    or_left _ _ (not_from_false (eqb node own) (ne_eqb node own (λ e. omega arith))) in
    let place : 4 + 4 * k ≡ 4 * suc k = omega arith in
    let further : from_be_bytes w32 (take 4 (drop (4 * k) (drop 4 bytes))) ≡ 0 = rw (drop-drop (4 * k) 4 bytes, place) is in
    rw (
      number_read bytes some,
      other,
      own_zero own count (node + 1) k (drop 4 bytes) (omega arith) (omega arith) (omega (arith, length-drop 4 bytes)) further,
    ) refl

-- a stamp's own entry is not 0, or the bytes do not have it
pub own_other : (own count node : ℕ) (bytes : List ℕ)
    → ((k : ℕ) → own ≡ node + k → 4 * k + 4 ≤ length bytes → from_be_bytes w32 (take 4 (drop (4 * k) bytes)) ≢ 0)
    → elements_at (entry_at (Some own)) (λ node _. node + 1) count node bytes ≡ elements_at (entry_at None) (λ node _. node + 1) count node bytes
unfolding elements_at entry_at tested
own_other own zero node bytes h = refl
own_other own (suc count) node bytes h =
    elim (cases_lt (length bytes) 4) [
      | inl few ↦ rw (number_short bytes few) refl
      | inr le ↦ let begun : (not (eqb node own) || leb 1 (from_be_bytes w32 (take 4 bytes))) ≡ true =
          elim (cases_eq node own) [
            | inl same ↦ or_right _ _ (le-leb 1 _ (above_zero _ (h 0 (omega arith) le)))
            | inr other ↦ or_left _ _ (not_from_false (eqb node own) (ne_eqb node own other))
          ] in
          let others = own_other own count (node + 1) (drop 4 bytes) (λ k same long e.
          let place : 4 + 4 * k ≡ 4 * (k + 1) = omega arith in
          let there : from_be_bytes w32 (take 4 (drop (4 * (k + 1)) bytes)) ≡ 0 = rw (← place, ← drop-drop (4 * k) 4 bytes) e in
          h (k + 1) (omega arith) (omega (arith, length-drop 4 bytes)) there) in
          rw (number_read bytes le, begun, others) refl
    ]

-- a stamp's entries are as any where its own is not 0
pub same_entries : (own nodes : ℕ) (bytes : List ℕ) → ((4 * own + 4 ≤ length bytes) × (from_be_bytes w32 (take 4 (drop (4 * own) bytes)) ≡ 0) → ⊥)
    → entries_at (Some own) nodes bytes ≡ entries_at None nodes bytes
unfolding entries_at
same_entries own nodes bytes h =
    own_other own nodes 0 bytes (λ k same long is.
    let at : k ≡ own = omega arith in
    h (subst (λ (j : ℕ). (4 * j + 4 ≤ length bytes) × (from_be_bytes w32 (take 4 (drop (4 * j) bytes)) ≡ 0)) at (long, is)))
