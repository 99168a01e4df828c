-- Names that are borrowed from the text.
use Rattle.std.proofs.Common.{◌≡◌, ℕ, suc, ◌+◌, ◌≤◌, Bool, true, false, cond, not, ltb, ◌||◌, List, [], ◌∷◌, map}
use Rattle.std.proofs.Common.{length, Some, None, unwrap_or, Bor, refl, ap, subst, arith, ltb-false}
use Rattle.std.specs.List.{list_any, position_or_len}
use Rattle.std.specs.Str.{bytes_eq}
use Rattle.lrc_lang.specs.Symbol.{Names, is_among, number_of}

abbrev pub texts : List (Bor (List ℕ)) → Names
texts names = map (λ name. name.now) names

abbrev pub spells : List ℕ → Bor (List ℕ) → Bool
spells bytes name = bytes_eq name.now bytes

pub is_among-texts : (names : List (Bor (List ℕ))) (bytes : List ℕ) → list_any (spells bytes) names ≡ is_among (texts names) bytes
is_among-texts [] bytes = refl
is_among-texts (name ∷ names) bytes = ap (λ found. spells bytes name || found) (is_among-texts names bytes)

pub number_of-texts : (names : List (Bor (List ℕ))) (bytes : List ℕ) → position_or_len (spells bytes) names ≡ number_of (texts names) bytes
number_of-texts [] bytes = refl
number_of-texts (name ∷ names) bytes = ap (λ n. cond (not (spells bytes name)) (1 + n) 0) (number_of-texts names bytes)

pub length-texts : (names : List (Bor (List ℕ))) → length (texts names) ≡ length names
length-texts [] = refl
length-texts (name ∷ names) = ap suc (length-texts names)

pub position-le : {A : Type 0} (p : A → Bool) (xs : List A) → position_or_len p xs ≤ length xs
position-le p [] = omega arith
position-le p (x ∷ xs) = bounded (not (p x)) (position_or_len p xs) (length xs) (position-le p xs)
  where
    bounded : (b : Bool) (n m : ℕ) → n ≤ m → cond b (1 + n) 0 ≤ suc m
    bounded true n m h = omega arith
    bounded false n m h = omega arith

pub number_of-le : (names : List (Bor (List ℕ))) (bytes : List ℕ) → number_of (texts names) bytes ≤ length names
number_of-le names bytes = subst (λ n. n ≤ length names) (number_of-texts names bytes) (position-le (spells bytes) names)

unwrap_or-cond_at : (b : Bool) (n len : ℕ) → ltb n len ≡ b → n ≤ len → unwrap_or (cond b (Some n) None) len ≡ n
unwrap_or-cond_at true n len e h = refl
unwrap_or-cond_at false n len e h = omega (arith, ltb-false n len e)

-- the place of the first, or the length
pub unwrap_or-cond : (n len : ℕ) → n ≤ len → unwrap_or (cond (ltb n len) (Some n) None) len ≡ n
unwrap_or-cond n len h = unwrap_or-cond_at (ltb n len) n len refl h
