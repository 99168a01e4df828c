-- The last of some states, where two neighbouring positions change places.
use Rattle.std.proofs.Common.{◌≡◌, ℕ, zero, suc, ◌+◌, ◌<◌, ◌≤◌, Bool, true, false, cond, List, [], ◌∷◌, ◌++◌, length, inl, inr, refl, sym, ap, ◌∙◌, arith}
use Rattle.std.specs.Prelude.{slice_get}
use Rattle.std.proofs.lemmas.Bool.{cases_eq, cond-false}
use Rattle.lrc_exact.specs.LocalRule.{last_state}
use Rattle.lrc_exact.proofs.LocalRules.{last-same}
use Rattle.lrc_lazy.specs.Swapped.{Moved, before, forward, back, behind}

-- ---- a list of which two neighbours change places

one_lower : {n j i : ℕ} → Moved (suc n) (suc j) i → (m : ℕ) × (i ≡ suc m) × Moved n j m
one_lower {n} {j} (before lt e) = (j, e, before (omega arith) refl)
one_lower {n} {j} (forward p e) = (n + 1, omega arith, forward (omega arith) refl)
one_lower {n} {j} (back p e) = (n, e, back (omega arith) refl)
one_lower {n} {j} (behind lt e) = (j, e, behind (omega arith) refl)

pub get_moved : {A : Type 0} (xs ys : List A) (x y : A) (j i : ℕ) → Moved (length xs) j i
    → slice_get (xs ++ x ∷ y ∷ ys) j ≡ slice_get (xs ++ y ∷ x ∷ ys) i
get_moved [] ys x y zero i (before lt e) = absurd (omega arith)
get_moved [] ys x y zero i (forward p e) = ap (slice_get (y ∷ x ∷ ys)) (let at : suc zero ≡ i = omega arith in at)
get_moved [] ys x y zero i (back p e) = absurd (omega arith)
get_moved [] ys x y zero i (behind lt e) = absurd (omega arith)
get_moved [] ys x y (suc zero) i (before lt e) = absurd (omega arith)
get_moved [] ys x y (suc zero) i (forward p e) = absurd (omega arith)
get_moved [] ys x y (suc zero) i (back p e) = ap (slice_get (y ∷ x ∷ ys)) (let at : zero ≡ i = omega arith in at)
get_moved [] ys x y (suc zero) i (behind lt e) = absurd (omega arith)
get_moved [] ys x y (suc (suc j)) i (before lt e) = absurd (omega arith)
get_moved [] ys x y (suc (suc j)) i (forward p e) = absurd (omega arith)
get_moved [] ys x y (suc (suc j)) i (back p e) = absurd (omega arith)
get_moved [] ys x y (suc (suc j)) i (behind lt e) = ap (slice_get (y ∷ x ∷ ys)) (sym e)
get_moved (z ∷ xs) ys x y zero i (before lt e) = ap (slice_get (z ∷ xs ++ y ∷ x ∷ ys)) (sym e)
get_moved (z ∷ xs) ys x y zero i (forward p e) = absurd (omega arith)
get_moved (z ∷ xs) ys x y zero i (back p e) = absurd (omega arith)
get_moved (z ∷ xs) ys x y zero i (behind lt e) = absurd (omega arith)
get_moved (z ∷ xs) ys x y (suc j) i m =
    let (low, is, lower) = one_lower m in
    get_moved xs ys x y j low lower ∙ ap (slice_get (z ∷ xs ++ y ∷ x ∷ ys)) (sym is)

-- a list of at least two items behind the first n
pub record Parted {A : Type 0} (xs : List A) (n : ℕ) : Type 0 where
  pub front : List A
  pub first : A
  pub second : A
  pub rest : List A
  pub is : xs ≡ front ++ first ∷ second ∷ rest
  pub long : length front ≡ n

pub parted : {A : Type 0} (xs : List A) (n : ℕ) → n + 1 < length xs → Parted xs n
parted [] n lt = absurd (omega arith)
parted (x ∷ []) n lt = absurd (omega arith)
parted (x ∷ y ∷ xs) zero lt = record { front = []; first = x; second = y; rest = xs; is = refl; long = refl }
parted (x ∷ y ∷ xs) (suc n) lt =
    let p = parted (y ∷ xs) n (omega arith) in
    record {
      front = x ∷ p.front;
      first = p.first;
      second = p.second;
      rest = p.rest;
      is = ap (λ l. x ∷ l) p.is;
      long = ap (λ k. suc k) p.long;
    }

-- ---- the last state

never_true : (b : Bool) → (b ≡ true → ⊥) → b ≡ false
never_true true h = absurd (h refl)
never_true false h = refl

step_over : {S : Type 0} (passes : ℕ → Bool) (states : List S) (j : ℕ) → passes j ≡ false → last_state passes states (j + 1) ≡ last_state passes states j
step_over passes states j fails =
    ap (last_state passes states) (let at : j + 1 ≡ suc j = omega arith in at)
    ∙ cond-false (passes j) (slice_get states j) (last_state passes states j) fails

two_more : {S : Type 0} (passes : ℕ → Bool) (states : List S) (k : ℕ)
    → last_state passes states (suc (k + 1))
    ≡ cond (passes (k + 1)) (slice_get states (k + 1)) (cond (passes k) (slice_get states k) (last_state passes states k))
two_more passes states k =
    ap (λ l. cond (passes (k + 1)) (slice_get states (k + 1)) l)
    (ap (last_state passes states) (let at : k + 1 ≡ suc k = omega arith in at))

turned : {A : Type 0} (a b : Bool) (x y l : A) → (b ≡ true → a ≡ true → ⊥) → cond a x (cond b y l) ≡ cond b y (cond a x l)
turned true true x y l not_both = absurd (not_both refl refl)
turned true false x y l not_both = refl
turned false true x y l not_both = refl
turned false false x y l not_both = refl

module _ {S : Type 0} (p q : ℕ → Bool) (ss ts : List S) (k : ℕ) (tests : (j i : ℕ) → Moved k j i → p j ≡ q i)
    (gets : (j i : ℕ) → Moved k j i → slice_get ss j ≡ slice_get ts i) where
  in_front : (j : ℕ) → j ≤ k → last_state p ss j ≡ last_state q ts j
  in_front j le = last-same p q ss ts j (λ i lt. tests i i (before (omega arith) refl)) (λ i lt. gets i i (before (omega arith) refl))

  both_passed : (p k ≡ true → p (k + 1) ≡ true → ⊥) → last_state p ss (suc (k + 1)) ≡ last_state q ts (suc (k + 1))
  both_passed not_both =
      two_more p ss k
      ∙ turned (p (k + 1)) (p k) (slice_get ss (k + 1)) (slice_get ss k) (last_state p ss k) not_both
      ∙ ap (λ b. cond b (slice_get ss k) (cond (p (k + 1)) (slice_get ss (k + 1)) (last_state p ss k))) (tests k (k + 1) (forward refl refl))
      ∙ ap (λ s. cond (q (k + 1)) s (cond (p (k + 1)) (slice_get ss (k + 1)) (last_state p ss k))) (gets k (k + 1) (forward refl refl))
      ∙ ap (λ b. cond (q (k + 1)) (slice_get ts (k + 1)) (cond b (slice_get ss (k + 1)) (last_state p ss k))) (tests (k + 1) k (back refl refl))
      ∙ ap (λ s. cond (q (k + 1)) (slice_get ts (k + 1)) (cond (q k) s (last_state p ss k))) (gets (k + 1) k (back refl refl))
      ∙ ap (λ l. cond (q (k + 1)) (slice_get ts (k + 1)) (cond (q k) (slice_get ts k) l)) (in_front k (omega arith))
      ∙ sym (two_more q ts k)

  far : (p k ≡ true → p (k + 1) ≡ true → ⊥) → (j : ℕ) → k + 1 < j → last_state p ss j ≡ last_state q ts j
  far not_both zero lt = absurd (omega arith)
  far not_both (suc j) lt = elim (cases_eq j (k + 1)) [
    | inl at ↦
        ap (λ x. last_state p ss (suc x)) at ∙ both_passed not_both ∙ sym (ap (λ x. last_state q ts (suc x)) at)
    | inr apart ↦
        let here : Moved k j j = behind (omega arith) refl in
        ap (λ b. cond b (slice_get ss j) (last_state p ss j)) (tests j j here)
        ∙ ap (λ s. cond (q j) s (last_state p ss j)) (gets j j here)
        ∙ ap (λ l. cond (q j) (slice_get ts j) l) (far not_both j (omega arith))
  ]

  -- before a position, and before that to which it moves, the last state is the same
  pub last_moved : (j i : ℕ) → Moved k j i → (j ≡ k → p (k + 1) ≡ true → ⊥) → (j ≡ k + 1 → p k ≡ true → ⊥)
      → (p k ≡ true → p (k + 1) ≡ true → ⊥) → last_state p ss j ≡ last_state q ts i
  last_moved j i (before lt e) first second both = in_front j (omega arith) ∙ ap (last_state q ts) (sym e)
  last_moved j i (forward at e) first second both =
      ap (last_state p ss) at ∙ in_front k (omega arith)
      ∙ sym (step_over q ts k (sym (tests (k + 1) k (back refl refl)) ∙ never_true (p (k + 1)) (first at)))
      ∙ ap (last_state q ts) (sym e)
  last_moved j i (back at e) first second both =
      ap (last_state p ss) at ∙ step_over p ss k (never_true (p k) (second at)) ∙ in_front k (omega arith) ∙ ap (last_state q ts) (sym e)
  last_moved j i (behind lt e) first second both = far both j (omega arith) ∙ ap (last_state q ts) (sym e)
