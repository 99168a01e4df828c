-- Positions of a run of which two neighbouring acts change places, and what stands there.
use Rattle.std.proofs.Common.{◌≡◌, ℕ, zero, suc, ◌+◌, ◌<◌, ◌≤◌, List, [], ◌∷◌, ◌++◌, inl, inr, Bool, ◌&&◌, cond}
use Rattle.std.proofs.Common.{length, take, refl, sym, subst, ◌∙◌, ap, arith}
use Rattle.std.specs.Prelude.{Some, slice_get, ◌==◌}
use Rattle.std.proofs.lemmas.Bool.{cases_lt, cases_eq}
use Rattle.std.proofs.lemmas.List.{take-append-le}
use Rattle.lrc_trace.specs.declared.act.Act.{Act}
use Rattle.lrc_trace.specs.declared.act.Deed.{Deed}
use Rattle.lrc_trace.specs.Run.{Does, count_of}
use Rattle.lrc_trace.proofs.Positions.{slice_get-seam, Does-longer, Does-shorter}
use Rattle.lrc_trace.proofs.Intervals.{count_of-same}
use Rattle.lrc_trace.proofs.Outlines.{count_of-cons}
use Rattle.lrc_lazy.specs.Swapped.{pair, Moved, before, forward, back, behind}

-- ---- where it stands then

-- each position has one
pub moved : (k i : ℕ) → (j : ℕ) × Moved k i j
moved k i = elim (cases_lt i k) [
  | inl lt ↦ (i, before lt refl)
  | inr le ↦
      elim (cases_eq i k) [
        | inl same ↦ (k + 1, forward same refl)
        | inr other ↦
            elim (cases_eq i (k + 1)) [
              | inl next ↦ (k, back next refl)
              | inr further_on ↦ (i, behind (omega arith) refl)
            ]
      ]
]

-- changing places again leads back
pub moved_back : {k i j : ℕ} → Moved k i j → Moved k j i
moved_back (before lt e) = before (omega arith) (sym e)
moved_back (forward p e) = back e p
moved_back (back p e) = forward e p
moved_back (behind lt e) = behind (omega arith) (sym e)

pub moved_one : {k i j m : ℕ} → Moved k i j → Moved k i m → j ≡ m
moved_one (before lt e) (before h f) = omega arith
moved_one (before lt e) (forward h f) = omega arith
moved_one (before lt e) (back h f) = omega arith
moved_one (before lt e) (behind h f) = omega arith
moved_one (forward p e) (before h f) = omega arith
moved_one (forward p e) (forward h f) = omega arith
moved_one (forward p e) (back h f) = omega arith
moved_one (forward p e) (behind h f) = omega arith
moved_one (back p e) (before h f) = omega arith
moved_one (back p e) (forward h f) = omega arith
moved_one (back p e) (back h f) = omega arith
moved_one (back p e) (behind h f) = omega arith
moved_one (behind lt e) (before h f) = omega arith
moved_one (behind lt e) (forward h f) = omega arith
moved_one (behind lt e) (back h f) = omega arith
moved_one (behind lt e) (behind h f) = omega arith

-- all but the two stay in order
pub moved_order : {k i j m n : ℕ} → Moved k i m → Moved k j n → i < j → (i ≡ k → j ≡ k + 1 → ⊥) → m < n
moved_order (before lt e) (before h f) less apart = omega arith
moved_order (before lt e) (forward h f) less apart = omega arith
moved_order (before lt e) (back h f) less apart = omega arith
moved_order (before lt e) (behind h f) less apart = omega arith
moved_order (forward p e) (before h f) less apart = absurd (omega arith)
moved_order (forward p e) (forward h f) less apart = absurd (omega arith)
moved_order (forward p e) (back h f) less apart = absurd (apart p h)
moved_order (forward p e) (behind h f) less apart = omega arith
moved_order (back p e) (before h f) less apart = absurd (omega arith)
moved_order (back p e) (forward h f) less apart = absurd (omega arith)
moved_order (back p e) (back h f) less apart = absurd (omega arith)
moved_order (back p e) (behind h f) less apart = omega arith
moved_order (behind lt e) (before h f) less apart = absurd (omega arith)
moved_order (behind lt e) (forward h f) less apart = absurd (omega arith)
moved_order (behind lt e) (back h f) less apart = absurd (omega arith)
moved_order (behind lt e) (behind h f) less apart = omega arith

-- so where the order turns, these two are meant
pub crossed : {k i j m n : ℕ} → Moved k i m → Moved k j n → i < j → n ≤ m → (i ≡ k) × (j ≡ k + 1)
crossed {k} {i} {j} a b less le = elim (cases_eq i k) [
  | inl same ↦
      elim (cases_eq j (k + 1)) [
        | inl next ↦ (same, next)
        | inr apart ↦ let lt = moved_order a b less (λ e f. apart f) in absurd (omega arith)
      ]
  | inr apart ↦ let lt = moved_order a b less (λ e f. apart e) in absurd (omega arith)
]

-- and none moves past what stands behind both
pub moved_within : {k i j n : ℕ} → Moved k i j → k + 1 < n → i < n → j < n
moved_within (before lt e) far less = omega arith
moved_within (forward p e) far less = omega arith
moved_within (back p e) far less = omega arith
moved_within (behind lt e) far less = omega arith

-- ---- what stands there

get_next : {A : Type 0} → (xs : List A) (x y : A) (ys : List A) → slice_get (xs ++ x ∷ y ∷ ys) (suc (length xs)) ≡ Some y
get_next [] x y ys = refl
get_next (z ∷ xs) x y ys = get_next xs x y ys

get_second : {A : Type 0} → (xs : List A) (x y : A) (ys : List A) → slice_get (xs ++ x ∷ y ∷ ys) (length xs + 1) ≡ Some y
get_second xs x y ys =
    let is : length xs + 1 ≡ suc (length xs) = omega arith in
    ap (slice_get (xs ++ x ∷ y ∷ ys)) is ∙ get_next xs x y ys

get_behind : {A : Type 0} → (xs ys : List A) (x y : A) (i : ℕ) → length xs + 1 < i → slice_get (xs ++ x ∷ y ∷ ys) i ≡ slice_get (xs ++ y ∷ x ∷ ys) i
get_behind [] ys x y zero lt = absurd (omega arith)
get_behind [] ys x y (suc zero) lt = absurd (omega arith)
get_behind [] ys x y (suc (suc i)) lt = refl
get_behind (z ∷ xs) ys x y zero lt = absurd (omega arith)
get_behind (z ∷ xs) ys x y (suc i) lt = get_behind xs ys x y i (omega arith)

-- what is counted of the front and both acts
count_behind : (kind : Deed → Bool) (p : ℕ) (xs ys : List Act) (x y : Act) (i : ℕ) → length xs + 1 < i
    → count_of kind p (take i (xs ++ x ∷ y ∷ ys)) ≡ count_of kind p (take i (xs ++ y ∷ x ∷ ys))
count_behind kind p [] ys x y zero lt = absurd (omega arith)
count_behind kind p [] ys x y (suc zero) lt = absurd (omega arith)
count_behind kind p [] ys x y (suc (suc i)) lt =
    let zs = take i ys in
    let one : Act → ℕ = λ a. cond (a.node == p && kind a.deed) 1 0 in
    let left = count_of-cons kind p x (y ∷ zs) in
    let left' = count_of-cons kind p y zs in
    let right = count_of-cons kind p y (x ∷ zs) in
    let right' = count_of-cons kind p x zs in
    omega (arith, left, left', right, right')
count_behind kind p (z ∷ xs) ys x y zero lt = absurd (omega arith)
count_behind kind p (z ∷ xs) ys x y (suc i) lt =
    let rest = count_behind kind p xs ys x y i (omega arith) in
    let left = count_of-cons kind p z (take i (xs ++ x ∷ y ∷ ys)) in
    let right = count_of-cons kind p z (take i (xs ++ y ∷ x ∷ ys)) in
    omega (arith, rest, left, right)

module _ (front : List Act) (first second : Act) (rest : List Act) where
  abbrev run : List Act
  run = pair front first second rest

  abbrev other : List Act
  other = pair front second first rest

  abbrev k : ℕ
  k = length front

  pub first_stands : Does run k first.node first.deed
  first_stands = record { stands = slice_get-seam front first (second ∷ rest) }

  pub second_stands : Does run (k + 1) second.node second.deed
  second_stands = record { stands = get_second front first second rest }

  -- the acts are where they have moved to
  pub does_moved : {i j n : ℕ} {d : Deed} → Moved k i j → Does run i n d → Does other j n d
  does_moved {i} {j} {n} {d} (before lt e) does =
      subst (λ x. Does other x n d) (sym e) (Does-longer (second ∷ first ∷ rest) (Does-shorter (first ∷ second ∷ rest) lt does))
  does_moved {i} {j} {n} {d} (forward p e) does =
      let at : Does run k n d = subst (λ x. Does run x n d) p does in
      subst (λ x. Does other x n d) (sym e)
      (record { stands = get_second front second first rest ∙ sym first_stands.stands ∙ at.stands })
  does_moved {i} {j} {n} {d} (back p e) does =
      let at : Does run (k + 1) n d = subst (λ x. Does run x n d) p does in
      subst (λ x. Does other x n d) (sym e)
      (record { stands = slice_get-seam front second (first ∷ rest) ∙ sym second_stands.stands ∙ at.stands })
  does_moved {i} {j} {n} {d} (behind lt e) does =
      subst (λ x. Does other x n d) (sym e) (record { stands = sym (get_behind front rest first second i lt) ∙ does.stands })

  -- what a node has done before an act of its own is the same
  pub count_front : (kind : Deed → Bool) (p i : ℕ) → i ≤ k → count_of kind p (take i run) ≡ count_of kind p (take i other)
  count_front kind p i le =
      ap (λ (l : List Act). count_of kind p l) (take-append-le i front (first ∷ second ∷ rest) le ∙ sym (take-append-le i front (second ∷ first ∷ rest) le))

  pub count_far : (kind : Deed → Bool) (p i : ℕ) → k + 1 < i → count_of kind p (take i run) ≡ count_of kind p (take i other)
  count_far kind p i lt = count_behind kind p front rest first second i lt

-- an act of another node is not counted
pub count_past : (kind : Deed → Bool) (front : List Act) (first second : Act) (rest : List Act) (p : ℕ) → (first.node ≡ p → ⊥)
    → count_of kind p (take (length front + 1) (pair front first second rest)) ≡ count_of kind p (take (length front) (pair front first second rest))
count_past kind front first second rest p apart =
    count_of-same kind (pair front first second rest) p (length front) first.node first.deed (first_stands front first second rest) (λ e t. apart e)
