-- What stands for the items of a list, with one item more.
use Rattle.std.proofs.Common.{◌≡◌, ◌∙◌, ◌<◌, ◌+◌, ℕ, zero, suc, ap, arith, List, [], ◌∷◌, ◌++◌, length, take, get_or, append-nil}
use Rattle.std.specs.List.{enumerate_from, flat_map, range_with_len}
use Rattle.std.proofs.lemmas.List.{length-take-le, take_more}
use Rattle.std.proofs.lemmas.List.Concat.{flat_map-append}
use Rattle.lrc_text.specs.Each.{each}

enumerate-append : {X : Type 0} (n : ℕ) (xs ys : List X) → enumerate_from n (xs ++ ys) ≡ enumerate_from n xs ++ enumerate_from (n + length xs) ys
enumerate-append n [] ys = ap (λ m. enumerate_from m ys) (omega arith)
enumerate-append n (x ∷ xs) ys =
    ap (λ l. (n, x) ∷ l)
    (enumerate-append (n + 1) xs ys ∙ ap (λ m. enumerate_from (n + 1) xs ++ enumerate_from m ys) (omega arith))

pub each_more : {X Y : Type 0} (of : ℕ → X → List Y) (items : List X) (i : ℕ) (d : X) → i < length items
    → each of (take (i + 1) items) ≡ each of (take i items) ++ of i (get_or items i d)
each_more {X} {Y} of items i d lt =
    let here = get_or items i d in
    let many : 0 + length (take i items) ≡ i = omega (arith, length-take-le i items (omega arith)) in
    ap (each of) (take_more items i d lt)
    ∙ ap (flat_map (λ (at : ℕ × X). of at.0 at.1)) (enumerate-append 0 (take i items) (here ∷ []))
    ∙ flat_map-append (λ (at : ℕ × X). of at.0 at.1) (enumerate_from 0 (take i items)) (enumerate_from (0 + length (take i items)) (here ∷ []))
    ∙ ap (λ l. each of (take i items) ++ l) (append-nil (of (0 + length (take i items)) here) ∙ ap (λ m. of m here) many)

range-suc : (a n : ℕ) → range_with_len a (suc n) ≡ range_with_len a n ++ (a + n) ∷ []
range-suc a zero = let same : a ≡ a + 0 = omega arith in ap (λ m. m ∷ []) same
range-suc a (suc n) =
    let same : a + 1 + n ≡ a + suc n = omega arith in
    ap (λ l. a ∷ l) (range-suc (a + 1) n ∙ ap (λ m. range_with_len (a + 1) n ++ m ∷ []) same)

-- the same of what stands for the first numbers
pub range_more : {Y : Type 0} (of : ℕ → List Y) (n : ℕ)
    → flat_map of (range_with_len 0 (n + 1)) ≡ flat_map of (range_with_len 0 n) ++ of n
range_more of n =
    let next : n + 1 ≡ suc n = omega arith in
    let last : 0 + n ≡ n = omega arith in
    ap (λ m. flat_map of (range_with_len 0 m)) next ∙ ap (flat_map of) (range-suc 0 n)
    ∙ flat_map-append of (range_with_len 0 n) ((0 + n) ∷ [])
    ∙ ap (λ l. flat_map of (range_with_len 0 n) ++ l) (append-nil (of (0 + n)) ∙ ap of last)
