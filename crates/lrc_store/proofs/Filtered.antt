-- Taking out elements before or after they are spread out.
use Rattle.std.proofs.Common.{◌≡◌, ◌∙◌, Bool, true, false, cond, List, [], ◌∷◌, ◌++◌, refl, ap, sym}
use Rattle.std.specs.List.{All, filter, flat_map}
use Rattle.std.proofs.lemmas.List.Concat.{flat_map-cons}
use Rattle.std.proofs.lemmas.List.Elements.{All-head, All-tail, filter-append}

-- elements that all pass or all fail
pub all_or_none : {Y : Type 0} (test : Y → Bool) (b : Bool) (ys : List Y) → All (λ y. test y ≡ b) ys → filter test ys ≡ cond b ys []
all_or_none test true [] are = refl
all_or_none test false [] are = refl
all_or_none test true (y ∷ ys) are =
    ap (λ b. cond b (y ∷ filter test ys) (filter test ys)) (All-head (λ z. test z ≡ true) y ys are)
    ∙ ap (λ (l : List _). y ∷ l) (all_or_none test true ys (All-tail (λ z. test z ≡ true) y ys are))
all_or_none test false (y ∷ ys) are =
    ap (λ b. cond b (y ∷ filter test ys) (filter test ys)) (All-head (λ z. test z ≡ false) y ys are)
    ∙ all_or_none test false ys (All-tail (λ z. test z ≡ false) y ys are)

module _ {X Y : Type 0} (parts : X → List Y) (kept : X → Bool) (test : Y → Bool)
    (alike : (x : X) → All (λ y. test y ≡ kept x) (parts x)) where
  -- where the parts of one element pass just as that does
  pub filter-flat_map : (xs : List X) → filter test (flat_map parts xs) ≡ flat_map parts (filter kept xs)
  filter-flat_map [] = refl
  filter-flat_map (x ∷ xs) =
      ap (filter test) (flat_map-cons parts x xs)
      ∙ filter-append test (parts x) (flat_map parts xs)
      ∙ ap (λ (l : List Y). l ++ filter test (flat_map parts xs)) (all_or_none test (kept x) (parts x) (alike x))
      ∙ ap (λ (l : List Y). cond (kept x) (parts x) [] ++ l) (filter-flat_map xs)
      ∙ by_test (kept x) (filter kept xs)
    where
      by_test : (b : Bool) (rest : List X) → cond b (parts x) [] ++ flat_map parts rest ≡ flat_map parts (cond b (x ∷ rest) rest)
      by_test true rest = sym (flat_map-cons parts x rest)
      by_test false rest = refl
