-- Lists that are seen by a function.
use Rattle.std.proofs.Common.{◌≡◌, ℕ, zero, suc, List, [], ◌∷◌, Some, refl, ap, map, length, ◌∙◌, sym, Bool, true, false, ◌||◌, ◌++◌}
use Rattle.std.proofs.lemmas.List.{length-map}
use Rattle.std.specs.Prelude.{slice_get, slice_set, remove, option_map}
use Rattle.std.specs.List.{list_any}

pub map-set : {A B : Type 0} (f : A → B) (xs : List A) (n : ℕ) (y : A) → map f (slice_set xs n y) ≡ slice_set (map f xs) n (f y)
map-set f [] n y = refl
map-set f (x ∷ xs) zero y = refl
map-set f (x ∷ xs) (suc n) y = ap (λ more. f x ∷ more) (map-set f xs n y)

pub map-get : {A B : Type 0} (f : A → B) (xs : List A) (n : ℕ) → slice_get (map f xs) n ≡ option_map f (slice_get xs n)
map-get f [] n = refl
map-get f (x ∷ xs) zero = refl
map-get f (x ∷ xs) (suc n) = map-get f xs n

pub map-remove : {A B : Type 0} (f : A → B) (xs : List A) (n : ℕ) → map f (remove xs n) ≡ remove (map f xs) n
map-remove f [] zero = refl
map-remove f [] (suc n) = refl
map-remove f (x ∷ xs) zero = refl
map-remove f (x ∷ xs) (suc n) = ap (λ more. f x ∷ more) (map-remove f xs n)

pub set-set : {A : Type 0} (xs : List A) (n : ℕ) (a b : A) → slice_set (slice_set xs n a) n b ≡ slice_set xs n b
set-set [] n a b = refl
set-set (x ∷ xs) zero a b = refl
set-set (x ∷ xs) (suc n) a b = ap (λ more. x ∷ more) (set-set xs n a b)

pub set-length : {A : Type 0} (xs : List A) (n : ℕ) (y : A) → length (slice_set xs n y) ≡ length xs
set-length [] n y = refl
set-length (x ∷ xs) zero y = refl
set-length (x ∷ xs) (suc n) y = ap suc (set-length xs n y)

pub same_length : {A B C : Type 0} (f : A → C) (g : B → C) (xs : List A) (ys : List B) → map f xs ≡ map g ys → length xs ≡ length ys
same_length f g xs ys e = sym (length-map xs f) ∙ ap length e ∙ length-map ys g

pub map-map : {A B C : Type 0} (f : B → C) (g : A → B) (xs : List A) → map f (map g xs) ≡ map (λ x. f (g x)) xs
map-map f g [] = refl
map-map f g (x ∷ xs) = ap (λ more. f (g x) ∷ more) (map-map f g xs)

pub map-both : {A B : Type 0} (f : A → B) (xs ys : List A) → map f (xs ++ ys) ≡ map f xs ++ map f ys
map-both f [] ys = refl
map-both f (x ∷ xs) ys = ap (λ more. f x ∷ more) (map-both f xs ys)

-- lists that are seen alike, with one element more at each end
pub map-more : {A B C : Type 0} (f : A → C) (g : B → C) (xs next : List A) (ys : List B) (x : A) (y : B) → next ≡ xs ++ x ∷ [] → f x ≡ g y
    → map f xs ≡ map g ys → map f next ≡ map g (ys ++ y ∷ [])
map-more f g xs next ys x y more same e =
    ap (map f) more ∙ map-both f xs (x ∷ []) ∙ ap (λ zs. zs ++ f x ∷ []) e ∙ ap (λ z. map g ys ++ z ∷ []) same
    ∙ sym (map-both g ys (y ∷ []))

-- ---- tests

pub neither : (a b : Bool) → (a || b) ≡ false → (a ≡ false) × (b ≡ false)
neither true b e = cc
neither false b e = (refl, e)

pub none_of : {A : Type 0} (p : A → Bool) (xs : List A) (n : ℕ) (x : A) → list_any p xs ≡ false → slice_get xs n ≡ Some x → p x ≡ false
none_of p [] n x none there = cc
none_of p (y ∷ xs) zero x none there = let same : y ≡ x = cc in ap p (sym same) ∙ (neither (p y) (list_any p xs) none).0
none_of p (y ∷ xs) (suc n) x none there = none_of p xs n x (neither (p y) (list_any p xs) none).1 there

both_false : (a b : Bool) → a ≡ false → b ≡ false → (a || b) ≡ false
both_false a b e f = ap (λ x. x || b) e ∙ f

one_true : (a b : Bool) → b ≡ true → (a || b) ≡ true
one_true true b e = refl
one_true false b e = e

pub none-set : {A : Type 0} (p : A → Bool) (xs : List A) (n : ℕ) (y : A) → list_any p xs ≡ false → p y ≡ false → list_any p (slice_set xs n y) ≡ false
none-set p [] n y none fails = none
none-set p (x ∷ xs) zero y none fails = both_false (p y) (list_any p xs) fails (neither (p x) (list_any p xs) none).1
none-set p (x ∷ xs) (suc n) y none fails =
    let apart = neither (p x) (list_any p xs) none in both_false (p x) (list_any p (slice_set xs n y)) apart.0 (none-set p xs n y apart.1 fails)

pub some-set : {A : Type 0} (p : A → Bool) (xs : List A) (n : ℕ) (x y : A) → slice_get xs n ≡ Some x → p y ≡ true → list_any p (slice_set xs n y) ≡ true
some-set p [] n x y there holds = cc
some-set p (z ∷ xs) zero x y there holds = ap (λ b. b || list_any p xs) holds
some-set p (z ∷ xs) (suc n) x y there holds = one_true (p z) (list_any p (slice_set xs n y)) (some-set p xs n x y there holds)

pub none-end : {A : Type 0} (p : A → Bool) (xs : List A) (y : A) → list_any p xs ≡ false → p y ≡ false → list_any p (xs ++ y ∷ []) ≡ false
none-end p [] y none fails = both_false (p y) false fails refl
none-end p (x ∷ xs) y none fails =
    let apart = neither (p x) (list_any p xs) none in both_false (p x) (list_any p (xs ++ y ∷ [])) apart.0 (none-end p xs y apart.1 fails)

pub some-end : {A : Type 0} (p : A → Bool) (xs : List A) (y : A) → p y ≡ true → list_any p (xs ++ y ∷ []) ≡ true
some-end p [] y holds = ap (λ b. b || false) holds
some-end p (x ∷ xs) y holds = one_true (p x) (list_any p (xs ++ y ∷ [])) (some-end p xs y holds)
