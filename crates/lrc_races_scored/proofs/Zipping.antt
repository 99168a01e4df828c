-- Two lists side by side.
use Rattle.std.proofs.Common.{◌≡◌, ℕ, zero, suc, ◌<◌, List, [], ◌∷◌, length, get_or, refl, ap, arith}
use Rattle.std.specs.Prelude.{zip}

pub length-zip : {X Y : Type 0} (xs : List X) (ys : List Y) → length ys ≡ length xs → length (zip xs ys) ≡ length xs
length-zip [] [] e = refl
length-zip [] (y ∷ ys) e = refl
length-zip (x ∷ xs) [] e = absurd (omega arith)
length-zip (x ∷ xs) (y ∷ ys) e = ap suc (length-zip xs ys (omega arith))

pub get_or-zip : {X Y : Type 0} (xs : List X) (ys : List Y) (i : ℕ) (d : X) (e : Y) → length ys ≡ length xs → i < length xs
    → get_or (zip xs ys) i (d, e) ≡ (get_or xs i d, get_or ys i e)
get_or-zip [] [] i d e same lt = absurd (omega arith)
get_or-zip [] (y ∷ ys) i d e same lt = absurd (omega arith)
get_or-zip (x ∷ xs) [] i d e same lt = absurd (omega arith)
get_or-zip (x ∷ xs) (y ∷ ys) zero d e same lt = refl
get_or-zip (x ∷ xs) (y ∷ ys) (suc i) d e same lt = get_or-zip xs ys i d e (omega arith) (omega arith)
