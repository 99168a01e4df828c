-- What a list says at each index, where one element is set or pushed.
use Rattle.std.proofs.Common.{◌≡◌, ◌≢◌, ℕ, zero, suc, ◌<◌, List, [], ◌∷◌, ◌++◌, length, set, refl, ap, arith}
use Rattle.std.specs.Prelude.{Some, slice_get}

pub slice_get-set_same : {X : Type 0} (xs : List X) (i : ℕ) (y : X) → i < length xs → slice_get (set xs i y) i ≡ Some y
slice_get-set_same [] i y h = absurd (omega arith)
slice_get-set_same (x ∷ xs) zero y h = refl
slice_get-set_same (x ∷ xs) (suc i) y h = slice_get-set_same xs i y (omega arith)

pub slice_get-set_other : {X : Type 0} (xs : List X) (i : ℕ) (y : X) (k : ℕ) → k ≢ i → slice_get (set xs i y) k ≡ slice_get xs k
slice_get-set_other [] i y k h = refl
slice_get-set_other (x ∷ xs) zero y zero h = absurd (h refl)
slice_get-set_other (x ∷ xs) zero y (suc k) h = refl
slice_get-set_other (x ∷ xs) (suc i) y zero h = refl
slice_get-set_other (x ∷ xs) (suc i) y (suc k) h = slice_get-set_other xs i y k (λ e. h (ap suc e))

pub slice_get-push_old : {X : Type 0} (xs : List X) (y : X) (k : ℕ) → k < length xs → slice_get (xs ++ y ∷ []) k ≡ slice_get xs k
slice_get-push_old [] y k h = absurd (omega arith)
slice_get-push_old (x ∷ xs) y zero h = refl
slice_get-push_old (x ∷ xs) y (suc k) h = slice_get-push_old xs y k (omega arith)

pub slice_get-push_new : {X : Type 0} (xs : List X) (y : X) → slice_get (xs ++ y ∷ []) (length xs) ≡ Some y
slice_get-push_new [] y = refl
slice_get-push_new (x ∷ xs) y = slice_get-push_new xs y

pub slice_get-append : {X : Type 0} (xs ys : List X) (k : ℕ) → k < length xs → slice_get (xs ++ ys) k ≡ slice_get xs k
slice_get-append [] ys k h = absurd (omega arith)
slice_get-append (x ∷ xs) ys zero h = refl
slice_get-append (x ∷ xs) ys (suc k) h = slice_get-append xs ys k (omega arith)

pub within_some : {X : Type 0} (xs : List X) (i : ℕ) (x : X) → slice_get xs i ≡ Some x → i < length xs
within_some [] i x e = let never : ⊥ = cc in absurd never
within_some (y ∷ ys) zero x e = omega arith
within_some (y ∷ ys) (suc i) x e = let lt = within_some ys i x e in omega arith
