-- Lines that are added one after another, and claims that are counted.
use Rattle.std.proofs.Common.{◌≡◌, ◌+◌, ℕ, ◌<◌, ◌≤◌, List, [], ◌∷◌, ◌++◌, Bool, true, false, cond, length, get_or, take, refl, sym, ap, ◌∙◌, append_assoc, append-nil, arith}
use Rattle.std.specs.Prelude.{Some, count_by, slice_get, zip}
use mir.Val.{bool_byte}
use Rattle.std.specs.List.{flat_map}
use Rattle.std.proofs.lemmas.List.{take_more, take_all}
use Rattle.std.proofs.lemmas.List.Concat.{flat_map-append}
use Rattle.std.proofs.lemmas.List.Sums.{count_by_more_no, count_by_more_yes}
use Rattle.std.proofs.lemmas.Option.{slice_get_within, slice_get-get_or, get_or_from_slice_get}
use Rattle.lrc_races_scored.proofs.Zipping.{get_or-zip, length-zip}

module _ {X : Type 0} (f : X → List ℕ) (items : List X) (old : List ℕ) where
  pub lines_none : old ≡ old ++ flat_map f (take 0 items)
  lines_none = sym (append-nil old)

  pub lines_more : (i : ℕ) (item : X) (text after : List ℕ) → slice_get items i ≡ Some item → text ≡ old ++ flat_map f (take i items)
      → after ≡ text ++ f item → after ≡ old ++ flat_map f (take (i + 1) items)
  lines_more i item text after at was now =
      now ∙ ap (λ t. t ++ f item) was ∙ append_assoc old (flat_map f (take i items)) (f item) ∙ ap (λ l. old ++ l) (sym one)
    where
      one : flat_map f (take (i + 1) items) ≡ flat_map f (take i items) ++ f item
      one =
          ap (flat_map f) (take_more items i item (slice_get_within items i item at)) ∙ flat_map-append f (take i items) (get_or items i item ∷ [])
          ∙ ap (λ l. flat_map f (take i items) ++ l) (append-nil (f (get_or items i item)) ∙ ap f (get_or_from_slice_get items i item item at))

  pub lines_all : (i : ℕ) (text : List ℕ) → length items ≤ i → text ≡ old ++ flat_map f (take i items) → text ≡ old ++ flat_map f items
  lines_all i text end was = was ∙ ap (λ l. old ++ flat_map f l) (take_all i items end)

-- one item more is counted, or not
pub count_more : {X : Type 0} (f : X → Bool) (xs : List X) (i : ℕ) (x : X) → slice_get xs i ≡ Some x
    → count_by f (take (i + 1) xs) ≡ count_by f (take i xs) + cond (f x) 1 0
count_more f xs i x at = by_test (f x) refl
  where
    here : get_or xs i x ≡ x
    here = get_or_from_slice_get xs i x x at

    by_test : (b : Bool) → b ≡ f x → count_by f (take (i + 1) xs) ≡ count_by f (take i xs) + cond b 1 0
    by_test true e = count_by_more_yes f xs i x (slice_get_within xs i x at) (ap f here ∙ sym e)
    by_test false e = let same = count_by_more_no f xs i x (slice_get_within xs i x at) (ap f here ∙ sym e) in omega arith

byte_is : (b : Bool) → bool_byte b ≡ cond b 1 0
byte_is true = refl
byte_is false = refl

-- a test that is added
pub one_more : (count one was now : ℕ) (says is : Bool) → count ≡ was → one ≡ bool_byte says → says ≡ is → now ≡ was + cond is 1 0 → count + one ≡ now
one_more count one was now says is e f same more =
    let g : one ≡ cond is 1 0 = f ∙ ap bool_byte same ∙ byte_is is in
    ap (λ n. n + one) e ∙ ap (λ n. was + n) g ∙ sym more

pub one_le : (one : ℕ) (says : Bool) → one ≡ bool_byte says → one ≤ 1
one_le one true e = omega arith
one_le one false e = omega arith

-- of two lists side by side
module _ {X Y : Type 0} (xs : List X) (ys : List Y) (long : length ys ≡ length xs) where
  pub pair_at : (i : ℕ) (x : X) (y : Y) → slice_get xs i ≡ Some x → slice_get ys i ≡ Some y → slice_get (zip xs ys) i ≡ Some (x, y)
  pair_at i x y at at' =
      slice_get-get_or (zip xs ys) i (x, y) within ∙ ap Some (get_or-zip xs ys i x y long (slice_get_within xs i x at)
      ∙ ap (λ a. (a, get_or ys i y)) (get_or_from_slice_get xs i x x at) ∙ ap (λ b. (x, b)) (get_or_from_slice_get ys i y y at'))
    where
      within : i < length (zip xs ys)
      within = let e = length-zip xs ys long in let lt = slice_get_within xs i x at in omega arith

  pub zip_lines_more : (f : X × Y → List ℕ) (old : List ℕ) (i : ℕ) (x : X) (y : Y) (text after : List ℕ) → slice_get xs i ≡ Some x → slice_get ys i ≡ Some y
      → text ≡ old ++ flat_map f (take i (zip xs ys)) → after ≡ text ++ f (x, y) → after ≡ old ++ flat_map f (take (i + 1) (zip xs ys))
  zip_lines_more f old i x y text after at at' was now = lines_more f (zip xs ys) old i (x, y) text after (pair_at i x y at at') was now

  pub zip_lines_all : (f : X × Y → List ℕ) (old : List ℕ) (i : ℕ) (text : List ℕ) → length xs ≤ i → text ≡ old ++ flat_map f (take i (zip xs ys))
      → text ≡ old ++ flat_map f (zip xs ys)
  zip_lines_all f old i text end was = lines_all f (zip xs ys) old i text (let e = length-zip xs ys long in omega arith) was

  pub zip_count : (f : X × Y → Bool) (i : ℕ) (x : X) (y : Y) → slice_get xs i ≡ Some x → slice_get ys i ≡ Some y
      → count_by f (take (i + 1) (zip xs ys)) ≡ count_by f (take i (zip xs ys)) + cond (f (x, y)) 1 0
  zip_count f i x y at at' = count_more f (zip xs ys) i (x, y) (pair_at i x y at at')

  pub zip_count_all : (f : X × Y → Bool) (i : ℕ) → length xs ≤ i → count_by f (take i (zip xs ys)) ≡ count_by f (zip xs ys)
  zip_count_all f i end = ap (count_by f) (take_all i (zip xs ys) (let e = length-zip xs ys long in omega arith))
