-- Names in a set of vectors, and in the list of their bytes.
use Rattle.std.proofs.Common.{◌≡◌, ◌≢◌, ℕ, Bool, true, false, List, [], ◌∷◌, AllPairs, nat_eq, refl, sym, ◌∙◌, ap, map, Vec}
use Rattle.std.specs.Prelude.{Some, Contains, find, cond, ◌||◌}
use Rattle.std.specs.declared.alloc.Global.{Global}
use Rattle.std.specs.List.{IsDistinct, AllByRecursion, list_any}
use Rattle.std.specs.Cmp.{unsigned_Decides}
use Rattle.std.specs.Cmp.Lexicographic.{pointwise}
use Rattle.std.proofs.lemmas.Cmp.{nat_list_eq_equiv}
use Rattle.std.proofs.lemmas.Map.Views.{list_any-from_Contains}
use Rattle.std.proofs.lemmas.Map.Made.{AllPairs-from_IsDistinct}
use Rattle.std.proofs.lemmas.Slice.Eq.{slice_eq-Decides}

abbrev pub bytes : Vec ℕ Global → List ℕ
bytes name = name.items

-- a test of bytes finds a vector exactly where it finds its bytes
pub any_bytes : (p : List ℕ → Bool) (names : List (Vec ℕ Global)) → list_any (λ name. p name.items) names ≡ list_any p (map bytes names)
any_bytes p [] = refl
any_bytes p (name ∷ names) = ap (λ b. p name.items || b) (any_bytes p names)

-- what no test finds is not there
pub not_there : (name : List ℕ) (names : List (Vec ℕ Global)) → list_any (λ other. pointwise nat_eq name other.items) names ≡ false
    → Contains (map bytes names) name → ⊥
not_there name names none there =
    let found = list_any-from_Contains nat_list_eq_equiv name (map bytes names) there in
    let same = any_bytes (pointwise nat_eq name) names in
    cc

-- what is found passes the test
pub found_passes : {X : Type 0} (p : X → Bool) (xs : List X) (x : X) → find p xs ≡ Some x → p x ≡ true
found_passes p [] x e = let never : ⊥ = cc in absurd never
found_passes p (y ∷ ys) x e =
    (elim (p y) as (λ b. p y ≡ b → cond b (Some y) (find p ys) ≡ Some x → p x ≡ true) [
      | true ↦ λ passes here. let same : y ≡ x = cc in ap p (sym same) ∙ passes
      | false ↦ λ fails past. found_passes p ys x past
    ]) refl e

head_differs : (name : List ℕ) (names : List (Vec ℕ Global)) → AllByRecursion (λ (other : Vec ℕ Global). pointwise nat_eq name other.items ≡ false) names
    → AllByRecursion (λ other. pointwise nat_eq name other ≡ false) (map bytes names)
head_differs name [] h = h
head_differs name (other ∷ names) (one, rest) = (one, head_differs name names rest)

bytes_distinct : (names : List (Vec ℕ Global)) → IsDistinct (λ one other. pointwise nat_eq one.items other.items) names
    → IsDistinct (pointwise nat_eq) (map bytes names)
unfolding IsDistinct
bytes_distinct [] h = h
bytes_distinct (name ∷ names) (head, tail) = (head_differs name.items names head, bytes_distinct names tail)

-- the names of a set differ
pub names_differ : (names : List (Vec ℕ Global)) → IsDistinct (λ one other. pointwise nat_eq one.items other.items) names
    → AllPairs (λ x y. x ≢ y) (map bytes names)
names_differ names h = AllPairs-from_IsDistinct (λ a b. slice_eq-Decides unsigned_Decides a b (pointwise nat_eq a b) refl) (map bytes names) (bytes_distinct names h)
