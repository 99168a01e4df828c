-- The value of decimal digits, as more of them are read.
use Rattle.std.proofs.Common.{◌≡◌, ℕ, zero, suc, ◌+◌, ◌-◌, ◌*◌, ◌^◌, ◌<◌, ◌≤◌, List, [], ◌∷◌, ◌++◌, length}
use Rattle.std.proofs.Common.{get_or, take, drop, sym, ap, ◌∙◌, arith, length-append, lit<}
use Rattle.std.proofs.Math.Nat.{pow-suc, le-mul_of_pos_right}
use Rattle.std.proofs.lemmas.List.{take_more, take-append-drop}
use Rattle.std.proofs.lemmas.Nat.{pow-add}
use Rattle.lrc_lang.specs.Lexemes.{value_of}

-- digits behind others
pub value_of-append : (xs ys : List ℕ) → value_of (xs ++ ys) ≡ value_of xs * 10 ^ length ys + value_of ys
value_of-append [] ys = omega arith
value_of-append (x ∷ xs) ys =
    let rest = value_of-append xs ys in
    let place = ap (λ k. 10 ^ k) (length-append xs ys) ∙ pow-add 10 (length xs) (length ys) in
    grind (arith, rest, place)

-- one digit more
pub value_of_more : (digits : List ℕ) (i : ℕ) → i < length digits → value_of (take (i + 1) digits) ≡ value_of (take i digits) * 10 + (get_or digits i 0 - 48)
value_of_more digits i h =
    let last = get_or digits i 0 ∷ [] in
    ap value_of (take_more digits i 0 h) ∙ value_of-append (take i digits) last ∙ omega arith

ten_pow-pos : (k : ℕ) → 0 < 10 ^ k
ten_pow-pos zero = lit< tt
ten_pow-pos (suc k) =
    let below = ten_pow-pos k in
    omega (arith, below, pow-suc 10 k)

-- the first digits alone write no greater number
pub value_of-take_le : (digits : List ℕ) (i : ℕ) → value_of (take i digits) ≤ value_of digits
value_of-take_le digits i =
    let split = sym (ap value_of (take-append-drop i digits)) ∙ value_of-append (take i digits) (drop i digits) in
    let scaled = le-mul_of_pos_right (value_of (take i digits)) (ten_pow-pos (length (drop i digits))) in
    omega (arith, split, scaled)

-- nor do they with one digit more
pub value_of_grows : (digits : List ℕ) (i : ℕ) → i < length digits → value_of (take i digits) * 10 + (get_or digits i 0 - 48) ≤ value_of digits
value_of_grows digits i h = rw (sym (value_of_more digits i h)) (value_of-take_le digits (i + 1))
