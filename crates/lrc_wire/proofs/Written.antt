-- Writing elements one after the other, as a loop does.
use Rattle.std.proofs.Common.{◌≡◌, ◌∙◌, ℕ, ◌+◌, ◌<◌, ◌≤◌, List, [], ◌∷◌, ◌++◌, length, get_or, take, Result, Ok, Err, sym, ap}
use Rattle.std.specs.Prelude.{OnOk}
use Rattle.std.specs.Int.{Width}
use Rattle.std.specs.List.{flat_map}
use Rattle.std.proofs.lemmas.List.{append-nil, flat_map_more, take_more, take_all}
use Rattle.lrc_wire.specs.Spelling.{number, numbers}

-- one more element
pub flat_map-take_more : {X : Type 0} (f : X → List ℕ) (before : List ℕ) (xs : List X) (i : ℕ) (d : X) → i < length xs
    → (before ++ flat_map f (take i xs)) ++ f (get_or xs i d) ≡ before ++ flat_map f (take (i + 1) xs)
flat_map-take_more {X} f before xs i d within =
    flat_map_more f before (take i xs) (get_or xs i d) ∙ ap (λ (ys : List X). before ++ flat_map f ys) (sym (take_more xs i d within))

pub numbers-take_more : (w : Width) (before xs : List ℕ) (i : ℕ) → i < length xs
    → (before ++ numbers w (take i xs)) ++ number w (get_or xs i 0) ≡ before ++ numbers w (take (i + 1) xs)
unfolding numbers
numbers-take_more w before xs i within = flat_map-take_more (number w) before xs i 0 within

-- one more number behind others
pub numbers-more : (w : Width) (before xs : List ℕ) (x : ℕ) → (before ++ numbers w xs) ++ number w x ≡ before ++ numbers w (xs ++ x ∷ [])
unfolding numbers
numbers-more w before xs x = flat_map_more (number w) before xs x

-- what follows from what holds on success holds on success
pub on_ok_so : {T E P Q : Type 0} (r : Result T E) → (P → Q) → OnOk r P → OnOk r Q
on_ok_so (Ok x) f p = f p
on_ok_so (Err e) f p = tt

-- before the first number, and after the last
pub numbers-none : (w : Width) (before : List ℕ) → before ≡ before ++ numbers w []
unfolding numbers
numbers-none w before = sym (append-nil before)

pub numbers-all : (w : Width) (before xs out : List ℕ) (i : ℕ) → length xs ≤ i → out ≡ before ++ numbers w (take i xs) → out ≡ before ++ numbers w xs
numbers-all w before xs out i past e = e ∙ ap (λ (ns : List ℕ). before ++ numbers w ns) (take_all i xs past)

pub flat_map-all : {X : Type 0} (f : X → List ℕ) (before out : List ℕ) (xs : List X) (i : ℕ) → length xs ≤ i
    → out ≡ before ++ flat_map f (take i xs) → out ≡ before ++ flat_map f xs
flat_map-all {X} f before out xs i past e = e ∙ ap (λ (ys : List X). before ++ flat_map f ys) (take_all i xs past)
