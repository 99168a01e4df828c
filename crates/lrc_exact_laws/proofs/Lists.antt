-- Lists that one another begin, and what is counted in them.
use Rattle.std.proofs.Common.{◌≡◌, ℕ, ◌+◌, Bool, true, cond, List, [], ◌∷◌, ◌++◌, length, drop, inl, inr, refl}
use Rattle.std.proofs.Common.{sym, ap, ◌∙◌, arith, append_assoc, length-append}
use Rattle.std.specs.Prelude.{◌==◌, slice_get, count_by}
use Rattle.std.proofs.lemmas.Bool.{eq-eqb}
use Rattle.std.proofs.lemmas.List.Sums.{sum_by-cons, sum_by-append}
use Rattle.std.proofs.lemmas.Option.{same_Some}
use Rattle.lrc_exact_laws.specs.Order.{OneBeginsOther}

-- how many in a list pass, one by one
abbrev pub one_if : Bool → ℕ
one_if b = cond b 1 0

pub count-cons : {A : Type 0} (p : A → Bool) (x : A) (xs : List A) → count_by p (x ∷ xs) ≡ one_if (p x) + count_by p xs
count-cons p x xs = sum_by-cons (λ y. cond (p y) 1 0) x xs

pub count-append : {A : Type 0} (p : A → Bool) (xs ys : List A) → count_by p (xs ++ ys) ≡ count_by p xs + count_by p ys
count-append p xs ys = sum_by-append (λ y. cond (p y) 1 0) xs ys

-- a list is as long as it has elements that pass a test that all pass
pub count-all : {A : Type 0} (xs : List A) → count_by (λ x. true) xs ≡ length xs
count-all [] = refl
count-all (x ∷ xs) = let a = count-cons (λ y. true) x xs in let b = count-all xs in omega arith

-- what stands first in two equal lists
pub same_first : {A : Type 0} (x y : A) (xs ys : List A) → x ∷ xs ≡ y ∷ ys → x ≡ y
same_first x y xs ys e = same_Some x y (ap (λ zs. slice_get zs 0) e)

pub same_rest : {A : Type 0} (x y : A) (xs ys : List A) → x ∷ xs ≡ y ∷ ys → xs ≡ ys
same_rest x y xs ys e = ap (λ zs. drop 1 zs) e

-- what stands last in two equal lists
pub same_last : {A : Type 0} (xs ys : List A) (x y : A) → xs ++ x ∷ [] ≡ ys ++ y ∷ [] → x ≡ y
same_last [] [] x y e = same_first x y [] [] e
same_last [] (z ∷ ys) x y e = let long = ap length e in let a = length-append ys (y ∷ []) in absurd (omega arith)
same_last (z ∷ xs) [] x y e = let long = ap length e in let a = length-append xs (x ∷ []) in absurd (omega arith)
same_last (z ∷ xs) (z' ∷ ys) x y e = same_last xs ys x y (same_rest z z' (xs ++ x ∷ []) (ys ++ y ∷ []) e)

-- A list has one place where a number stands with so many of it before.
abbrev pub is_number : ℕ → ℕ → Bool
is_number n m = m == n

pub same_place : (n : ℕ) (xs ys rest rest' : List ℕ) → xs ++ n ∷ rest ≡ ys ++ n ∷ rest'
    → count_by (is_number n) xs ≡ count_by (is_number n) ys → xs ≡ ys
same_place n [] [] rest rest' e c = refl
same_place n [] (y ∷ ys) rest rest' e c =
    let first = same_first n y rest (ys ++ n ∷ rest') e in
    let one : one_if (is_number n y) ≡ 1 = ap one_if (eq-eqb y n (sym first)) in
    let more = count-cons (is_number n) y ys in
    absurd (omega arith)
same_place n (x ∷ xs) [] rest rest' e c =
    let first = same_first x n (xs ++ n ∷ rest) rest' e in
    let one : one_if (is_number n x) ≡ 1 = ap one_if (eq-eqb x n first) in
    let more = count-cons (is_number n) x xs in
    absurd (omega arith)
same_place n (x ∷ xs) (y ∷ ys) rest rest' e c =
    let first = same_first x y (xs ++ n ∷ rest) (ys ++ n ∷ rest') e in
    let a = count-cons (is_number n) x xs in
    let b = count-cons (is_number n) y ys in
    let same : one_if (is_number n x) ≡ one_if (is_number n y) = ap (λ m. one_if (is_number n m)) first in
    let rests = same_place n xs ys rest rest' (same_rest x y (xs ++ n ∷ rest) (ys ++ n ∷ rest') e) (omega arith) in
    ap (λ z. z ∷ xs) first ∙ ap (λ zs. y ∷ zs) rests

pub same_place_begun : (n : ℕ) (xs ys rest rest' : List ℕ) → OneBeginsOther (xs ++ n ∷ rest) (ys ++ n ∷ rest')
    → count_by (is_number n) xs ≡ count_by (is_number n) ys → xs ≡ ys
same_place_begun n xs ys rest rest' (inl (more, e)) c = same_place n xs ys (rest ++ more) rest' (sym (append_assoc xs (n ∷ rest) more) ∙ e) c
same_place_begun n xs ys rest rest' (inr (more, e)) c = same_place n xs ys rest (rest' ++ more) (sym e ∙ append_assoc ys (n ∷ rest') more) c

-- a list that has none of any number is empty
pub none_at_all : (xs : List ℕ) → ((n : ℕ) → count_by (is_number n) xs ≡ 0) → xs ≡ []
none_at_all [] none = refl
none_at_all (x ∷ xs) none =
    let one : one_if (is_number x x) ≡ 1 = ap one_if (eq-eqb x x refl) in
    let more = count-cons (is_number x) x xs in
    let zero_here = none x in
    absurd (omega arith)
