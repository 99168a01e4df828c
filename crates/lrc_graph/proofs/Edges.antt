-- Edges of a graph that gets more places, or an edge more.
use Rattle.std.proofs.Common.{◌≡◌, ℕ, zero, suc, ◌<◌, ◌⊎◌, List, [], ◌∷◌, ◌++◌, inl, inr, length, set, refl, sym, ap, ◌∙◌, subst, arith}
use Rattle.std.specs.Prelude.{◌↔◌, Contains, Some, Vec, slice_get}
use Rattle.std.specs.declared.alloc.Global.{Global}
use Rattle.std.proofs.lemmas.Bool.{cases_eq, cases_lt}
use Rattle.std.proofs.lemmas.List.{get_or_append_left, get_or_push, length_push}
use Rattle.std.proofs.lemmas.Option.{same_Some, slice_get_within}
use Rattle.lrc_graph.specs.declared.graph.Graph.{Graph}
use Rattle.lrc_graph.specs.Graph.{HasEdge, IsWithin}

-- ---- items of lists

item_set : {A : Type 0} (xs : List A) (k : ℕ) (x : A) → k < length xs → slice_get (set xs k x) k ≡ Some x
item_set [] k x lt = absurd (omega (arith, lt))
item_set (y ∷ xs) zero x lt = refl
item_set (y ∷ xs) (suc k) x lt = item_set xs k x (omega (arith, lt))

item_other : {A : Type 0} (xs : List A) (k j : ℕ) (x : A) → (j ≡ k → ⊥) → slice_get (set xs k x) j ≡ slice_get xs j
item_other [] k j x apart = refl
item_other (y ∷ xs) zero zero x apart = absurd (apart refl)
item_other (y ∷ xs) zero (suc j) x apart = refl
item_other (y ∷ xs) (suc k) zero x apart = refl
item_other (y ∷ xs) (suc k) (suc j) x apart = item_other xs k j x (λ e. apart (ap suc e))

item_front : {A : Type 0} (xs ys : List A) (k : ℕ) → k < length xs → slice_get (xs ++ ys) k ≡ slice_get xs k
item_front [] ys k lt = absurd (omega (arith, lt))
item_front (x ∷ xs) ys zero lt = refl
item_front (x ∷ xs) ys (suc k) lt = item_front xs ys k (omega (arith, lt))

item_last : {A : Type 0} (xs : List A) (y : A) → slice_get (xs ++ y ∷ []) (length xs) ≡ Some y
item_last [] y = refl
item_last (x ∷ xs) y = item_last xs y

nothing_in : (n : ℕ) → Contains {X = ℕ} [] n → ⊥
nothing_in n c = let lt = c.1 in omega (arith, lt)

contains_push : (xs : List ℕ) (x n : ℕ) → Contains (xs ++ x ∷ []) n → Contains xs n ⊎ (n ≡ x)
contains_push xs x n c = elim (cases_lt c.0 (length xs)) [
  | inl lt ↦ inl (c.0, lt, sym (get_or_append_left xs (x ∷ []) n c.0 lt) ∙ c.2)
  | inr past ↦
      let within = c.1 in
      let at : length xs ≡ c.0 = omega (arith, past, within, length_push xs x) in
      inr (sym c.2 ∙ get_or_push xs x n c.0 at)
]

contains_more : (xs : List ℕ) (x n : ℕ) → Contains xs n ⊎ (n ≡ x) → Contains (xs ++ x ∷ []) n
contains_more xs x n (inl c) =
    let lt = c.1 in
    (c.0, omega (arith, lt, length_push xs x), get_or_append_left xs (x ∷ []) n c.0 c.1 ∙ c.2)
contains_more xs x n (inr same) = (length xs, omega (arith, length_push xs x), get_or_push xs x n (length xs) refl ∙ sym same)

-- ---- a graph

pub no_edges : (graph : Graph) → graph.before.items ≡ [] → (from to : ℕ) → HasEdge graph from to → ⊥
no_edges graph none from to edge =
    let lt = slice_get_within graph.before.items to edge.before edge.there in omega (arith, lt, ap (λ l. length l) none)

-- a place more without edges
pub edges_widened : (old new : Graph) (empty : Vec ℕ Global) → empty.items ≡ [] → new.before.items ≡ old.before.items ++ empty ∷ [] → (from to : ℕ)
    → (HasEdge new from to ↔ HasEdge old from to)
edges_widened old new empty none is from to = (back, on)
  where
    on : HasEdge old from to → HasEdge new from to
    on edge = record {
      before = edge.before;
      there = ap (λ l. slice_get l to) is
          ∙ item_front old.before.items (empty ∷ []) to (slice_get_within old.before.items to edge.before edge.there) ∙ edge.there;
      listed = edge.listed;
    }

    back : HasEdge new from to → HasEdge old from to
    back edge =
        let there : slice_get (old.before.items ++ empty ∷ []) to ≡ Some edge.before = sym (ap (λ l. slice_get l to) is) ∙ edge.there in
        elim (cases_lt to (length old.before.items)) [
          | inl lt ↦ record { before = edge.before; there = sym (item_front old.before.items (empty ∷ []) to lt) ∙ there; listed = edge.listed }
          | inr past ↦
              let within = slice_get_within (old.before.items ++ empty ∷ []) to edge.before there in
              let at : to ≡ length old.before.items = omega (arith, past, within, length_push old.before.items empty) in
              let same : empty ≡ edge.before =
              same_Some empty edge.before (sym (item_last old.before.items empty) ∙ ap (slice_get (old.before.items ++ empty ∷ [])) (sym at) ∙ there) in
              absurd (nothing_in from (subst (λ l. Contains l from) (ap (λ (v : Vec ℕ Global). v.items) (sym same) ∙ none) edge.listed))
        ]

-- an edge more
pub edges_linked : (old new : Graph) (from to : ℕ) (row longer : Vec ℕ Global) → to < length old.before.items → slice_get old.before.items to ≡ Some row
    → longer.items ≡ row.items ++ from ∷ [] → new.before.items ≡ set old.before.items to longer → (a b : ℕ)
    → (HasEdge new a b ↔ (HasEdge old a b ⊎ ((a ≡ from) × (b ≡ to))))
edges_linked old new from to row longer within there long is a b = (back, on)
  where
    at_to : slice_get new.before.items to ≡ Some longer
    at_to = ap (λ l. slice_get l to) is ∙ item_set old.before.items to longer within

    elsewhere : (b ≡ to → ⊥) → slice_get new.before.items b ≡ slice_get old.before.items b
    elsewhere apart = ap (λ l. slice_get l b) is ∙ item_other old.before.items to b longer apart

    back : HasEdge new a b → HasEdge old a b ⊎ ((a ≡ from) × (b ≡ to))
    back edge = elim (cases_eq b to) [
      | inl same ↦
          let now : slice_get new.before.items to ≡ Some edge.before = ap (slice_get new.before.items) (sym same) ∙ edge.there in
          let row_is : edge.before ≡ longer = same_Some edge.before longer (sym now ∙ at_to) in
          let listed : Contains (row.items ++ from ∷ []) a = subst (λ l. Contains l a) (ap (λ (v : Vec ℕ Global). v.items) row_is ∙ long) edge.listed in
          elim (contains_push row.items from a listed) [
            | inl had ↦ inl (record { before = row; there = ap (slice_get old.before.items) same ∙ there; listed = had })
            | inr new_one ↦ inr (new_one, same)
          ]
      | inr apart ↦ inl (record { before = edge.before; there = sym (elsewhere apart) ∙ edge.there; listed = edge.listed })
    ]

    pushed : (n : ℕ) → Contains row.items n ⊎ (n ≡ from) → HasEdge new n to
    pushed n either = record { before = longer; there = at_to; listed = subst (λ l. Contains l n) (sym long) (contains_more row.items from n either) }

    on : HasEdge old a b ⊎ ((a ≡ from) × (b ≡ to)) → HasEdge new a b
    on (inl edge) = elim (cases_eq b to) [
      | inl same ↦
          let row_is : edge.before ≡ row = same_Some edge.before row (sym edge.there ∙ ap (slice_get old.before.items) same ∙ there) in
          subst (HasEdge new a) (sym same) (pushed a (inl (subst (λ (v : Vec ℕ Global). Contains v.items a) row_is edge.listed)))
      | inr apart ↦ record { before = edge.before; there = elsewhere apart ∙ edge.there; listed = edge.listed }
    ]
    on (inr both) = subst (HasEdge new a) (sym both.1) (pushed a (inr both.0))

-- the places of the row of a place are within
pub row_within : (graph : Graph) (place : ℕ) (row : Vec ℕ Global) → IsWithin graph → slice_get graph.before.items place ≡ Some row → (n : ℕ)
    → Contains row.items n → n < length graph.before.items
row_within graph place row within there n c = within n place (record { before = row; there = there; listed = c })
