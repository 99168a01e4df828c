-- Sizes, and places by rows.
use Rattle.std.proofs.Common.{◌≡◌, ◌∙◌, ◌<◌, ◌≤◌, ◌+◌, ◌*◌, ◌/◌, ◌%◌, ℕ, ap, sym, refl, subst, arith, List, [], ◌∷◌, ◌++◌, length, map, take, drop, get_or, true, false, Bool, ◌&&◌}
use Rattle.std.specs.Prelude.{◌==◌, max}
use Rattle.std.specs.List.{list_all}
use Rattle.std.specs.Str.Parse.{digits_value}
use Rattle.std.proofs.Math.Nat.{add-mul, div-add-mod', div-div-eq-div-mul, le-mul_of_pos_right, mul_assoc, mul_comm, zero-mul}
use Rattle.std.proofs.lemmas.Bool.Decides.{nat_tests}
use Rattle.std.proofs.lemmas.List.{at_drop_more, get_or-map, length-map, take_more}
use Rattle.std.proofs.lemmas.List.Sums.{AllPass-from_list_all}
use Rattle.lrc_labels.specs.Sizes.{fills, indices, inner, is_size, product, rows, sizes_of}

-- the remainder by a product
rest_by : (n s p : ℕ) → n % (s * p) ≡ n / s % p * s + n % s
rest_by n s p =
    let whole : n / (s * p) * (s * p) + n % (s * p) ≡ n = div-add-mod' n (s * p) in
    let first : n / s * s + n % s ≡ n = div-add-mod' n s in
    let second : n / s / p * p + n / s % p ≡ n / s = div-add-mod' (n / s) p in
    let same : n / s / p ≡ n / (s * p) = div-div-eq-div-mul n s p in
    let turned : n / s / p * p * s ≡ n / (s * p) * (s * p) =
    mul_assoc (n / s / p) p s ∙ ap (λ m. n / s / p * m) (mul_comm p s) ∙ ap (λ m. m * (s * p)) same in
    let both : n / s * s ≡ n / s / p * p * s + n / s % p * s = ap (λ m. m * s) (sym second) ∙ add-mul (n / s / p * p) (n / s % p) s in
    omega (arith, whole, first, turned, both)

-- what is no whole row of the first size fills no rows of all,
pub fills_none : (n s : ℕ) (sizes : List ℕ) → 1 ≤ n % s → fills n (s ∷ sizes) ≡ false
fills_none n s sizes some = grind (arith, nat_tests, rest_by n s (product sizes), some)

-- and rows of the first fill those of all where their rows do
pub fills_more : (n s : ℕ) (sizes : List ℕ) → 1 ≤ s → n % s ≡ 0 → fills n (s ∷ sizes) ≡ fills (n / s) sizes
fills_more n s sizes positive none =
    grind (arith, nat_tests, rest_by n s (product sizes), le-mul_of_pos_right (n / s % product sizes) positive, zero-mul s, none)

-- a size is at least 1
pub size_positive : (field : List ℕ) → is_size field ≡ true → 1 ≤ digits_value 10 field
size_positive field h = grind (arith, nat_tests, h)

-- the size at a place of fields
module _ {A : Type 0} (bytes : A → List ℕ) (fields : List A) (i : ℕ) (d : A) (lt : i < length fields) where
  within : i < length (map bytes fields)
  within = subst (λ n. i < n) (sym (length-map fields bytes)) lt

  within_sizes : i < length (sizes_of (map bytes fields))
  within_sizes = subst (λ n. i < n) (sym (length-map (map bytes fields) (digits_value 10))) within

  size_at : get_or (sizes_of (map bytes fields)) i 0 ≡ digits_value 10 (bytes (get_or fields i d))
  size_at = get_or-map (digits_value 10) (map bytes fields) i [] 0 within ∙ ap (digits_value 10) (get_or-map bytes fields i d [] lt)

  pub one_is_size : list_all is_size (map bytes fields) ≡ true → is_size (bytes (get_or fields i d)) ≡ true
  one_is_size all = subst (λ field. is_size field ≡ true) (get_or-map bytes fields i d [] lt) (AllPass-from_list_all is_size (map bytes fields) all i [] within)

  one_size_more : take (i + 1) (sizes_of (map bytes fields)) ≡ take i (sizes_of (map bytes fields)) ++ digits_value 10 (bytes (get_or fields i d)) ∷ []
  one_size_more =
      take_more (sizes_of (map bytes fields)) i 0 within_sizes
      ∙ ap (λ size. take i (sizes_of (map bytes fields)) ++ size ∷ []) size_at

  module _ (size : ℕ) (is : size ≡ digits_value 10 (bytes (get_or fields i d))) where
    next_size : (n : ℕ) → fills n (drop i (sizes_of (map bytes fields))) ≡ fills n (size ∷ drop (i + 1) (sizes_of (map bytes fields)))
    next_size n =
        at_drop_more (fills n) (sizes_of (map bytes fields)) i 0 within_sizes
        ∙ ap (λ m. fills n (m ∷ drop (i + 1) (sizes_of (map bytes fields)))) (size_at ∙ sym is)

    pub positive : list_all is_size (map bytes fields) ≡ true → 0 < size
    positive all = subst (λ n. 0 < n) (sym is) (size_positive (bytes (get_or fields i d)) (one_is_size all))

    pub one_more_kept : (now next : List ℕ) → now ≡ take i (sizes_of (map bytes fields)) → next ≡ now ++ size ∷ []
        → next ≡ take (i + 1) (sizes_of (map bytes fields))
    one_more_kept now next so_far more =
        more
        ∙ ap (λ n. now ++ n ∷ []) is
        ∙ ap (λ (l : List ℕ). l ++ digits_value 10 (bytes (get_or fields i d)) ∷ []) so_far
        ∙ sym one_size_more

    -- what is left is no whole row of this size, so all is none of all sizes,
    pub stops : (left count : ℕ) → fills left (drop i (sizes_of (map bytes fields))) ≡ fills count (sizes_of (map bytes fields)) → 1 ≤ left % size
        → false ≡ fills count (sizes_of (map bytes fields))
    stops left count so_far some = sym (fills_none left size (drop (i + 1) (sizes_of (map bytes fields))) some) ∙ sym (next_size left) ∙ so_far

    -- or its rows are to be whole rows of the other sizes
    pub goes_on : (left count : ℕ) → list_all is_size (map bytes fields) ≡ true
        → fills left (drop i (sizes_of (map bytes fields))) ≡ fills count (sizes_of (map bytes fields)) → left % size ≡ 0
        → fills (left / size) (drop (i + 1) (sizes_of (map bytes fields))) ≡ fills count (sizes_of (map bytes fields))
    goes_on left count all so_far none =
        sym (fills_more left size (drop (i + 1) (sizes_of (map bytes fields))) (positive all) none) ∙ sym (next_size left) ∙ so_far

pub all_seen : {A B : Type 0} (seen : A → B) (test : B → Bool) (items : List A) → list_all (λ item. test (seen item)) items ≡ list_all test (map seen items)
all_seen seen test [] = refl
all_seen seen test (item ∷ others) = ap (λ (b : Bool). test (seen item) && b) (all_seen seen test others)

-- ---- the indices of a place

-- a place is found again from its indices
abbrev place_from : ℕ → (sizes indices : List ℕ) → ℕ
place_from row [] indices = row
place_from row (size ∷ sizes) [] = row
place_from row (size ∷ sizes) (index ∷ others) = place_from (row * max size 1 + index) sizes others

place_again : (place : ℕ) (sizes : List ℕ) → place_from (rows place sizes) sizes (inner place sizes) ≡ place
place_again place [] = refl
place_again place (size ∷ sizes) =
    ap (λ row. place_from row sizes (inner place sizes)) (div-add-mod' (rows place sizes) (max size 1)) ∙ place_again place sizes

abbrev head_of : List ℕ → ℕ
head_of [] = 0
head_of (n ∷ ns) = n

abbrev tail_of : List ℕ → List ℕ
tail_of [] = []
tail_of (n ∷ ns) = ns

pub same_place : (one other : ℕ) (sizes : List ℕ) → indices one sizes ≡ indices other sizes → one ≡ other
same_place one other sizes same =
    sym (place_again one sizes)
    ∙ ap (λ l. place_from (head_of l) sizes (tail_of l)) same
    ∙ place_again other sizes
