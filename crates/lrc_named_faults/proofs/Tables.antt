-- The table of what is declared, with one name more.
use Rattle.std.proofs.Common.{◌≡◌, ◌≤◌, ◌<◌, ◌+◌, ◌⊎◌, inl, inr, ℕ, zero, suc, List, [], ◌∷◌, ◌++◌, length, take, drop, Bool, true, false, refl, sym, ap, subst, ◌∙◌, arith}
use Rattle.std.specs.Prelude.{Option, Some, None, slice_get}
use Rattle.std.proofs.lemmas.List.{take-append-drop}
use Rattle.lrc_named_tree.specs.Tree.{Named, Expression}
use Rattle.lrc_named_names.specs.Names.{Declared, Meaning, function, meaning_at, meaning_of}
use Rattle.lrc_named_constants.specs.Constant.{names_of}
use Rattle.lrc_named_constants.specs.Layout.{as_meaning, locks_in, locks_of, words_in, words_of}
use Rattle.lrc_named_constants.specs.Well.{IsSound, IsWell, bytes_of, is_among}
use Rattle.lrc_named_expression_faults.specs.declared.extent.Extent.{Extent}
use Rattle.lrc_named_expression_faults.specs.Extent.{AreExtents, IsExtent}
use Rattle.lrc_named_expression_faults.specs.Scope.{private_name, sense_by, sense_of}
use Rattle.lrc_named_expression_faults.proofs.Clean.{clean_is_well}
use Rattle.lrc_named_faults.specs.Declarations.{IsClean, body_scope, varying}
use Rattle.lrc_named_faults.specs.Bodies.{AreBodiesClean}

-- what is declared at a place: as before, or the last
pub at_append : (table : List Declared) (d : Declared) (place : ℕ) (m : Meaning) → meaning_at (table ++ d ∷ []) place ≡ Some m
    → ((place < length table) × (meaning_at table place ≡ Some m)) ⊎ ((place ≡ length table) × (d.meaning ≡ m))
at_append [] d zero m is = inr (refl, cc)
at_append [] d (suc place) m is = absurd (cc)
at_append (x ∷ table) d zero m is = inl (omega arith, is)
at_append (x ∷ table) d (suc place) m is =
    elim (at_append table d place m is) [
      | inl h ↦ let lt = h.0 in inl (omega arith, h.1)
      | inr h ↦ inr (ap suc h.0, h.1)
    ]

pub take_before : (table : List Declared) (d : Declared) (place : ℕ) → place ≤ length table → take place (table ++ d ∷ []) ≡ take place table
take_before table d zero le = refl
take_before [] d (suc place) le = absurd (omega arith)
take_before (x ∷ table) d (suc place) le = ap (λ l. x ∷ l) (take_before table d place (omega arith))

take_whole : (table : List Declared) → take (length table) table ≡ table
take_whole [] = refl
take_whole (x ∷ table) = ap (λ l. x ∷ l) (take_whole table)

pub words_in-append : (table : List Declared) (d : Declared) → words_in (table ++ d ∷ []) ≡ words_in table + words_of d.meaning
words_in-append [] d = omega arith
words_in-append (x ∷ table) d = let h = words_in-append table d in omega (arith, h)

pub locks_in-append : (table : List Declared) (d : Declared) → locks_in (table ++ d ∷ []) ≡ locks_in table + locks_of d.meaning
locks_in-append [] d = omega arith
locks_in-append (x ∷ table) d = let h = locks_in-append table d in omega (arith, h)

-- bodies that have no fault, with one name more
pub bodies_more : (table : List Declared) (named : Named) (m : Meaning) → AreBodiesClean table
    → ((own : List Named) (body : Expression) → m ≡ function own body → IsClean (body_scope table own) body)
    → AreBodiesClean (table ++ as_meaning named m ∷ [])
bodies_more table named m clean last place own body is =
    elim (at_append table (as_meaning named m) place (function own body) is) [
      | inl h ↦ let lt = h.0 in subst (λ l. IsClean (body_scope l own) body) (sym (take_before table (as_meaning named m) place (omega arith))) (clean place own body h.1)
      | inr h ↦ let all = h.0 in
          subst (λ l. IsClean (body_scope l own) body)
          (sym (take_before table (as_meaning named m) place (omega arith) ∙ ap (λ n. take n table) all ∙ take_whole table)) (last own body h.1)
    ]

slice_get-append : (xs : List Extent) (x : Extent) (i : ℕ) (y : Extent) → slice_get xs i ≡ Some y → slice_get (xs ++ x ∷ []) i ≡ Some y
slice_get-append [] x i y is = absurd (cc)
slice_get-append (z ∷ xs) x zero y is = is
slice_get-append (z ∷ xs) x (suc i) y is = slice_get-append xs x i y is

slice_get-last : (xs : List Extent) (x : Extent) (i : ℕ) → i ≡ length xs → slice_get (xs ++ x ∷ []) i ≡ Some x
slice_get-last [] x zero e = refl
slice_get-last [] x (suc i) e = absurd (omega arith)
slice_get-last (z ∷ xs) x zero e = absurd (omega arith)
slice_get-last (z ∷ xs) x (suc i) e = slice_get-last xs x i (omega arith)

-- the extents, with one more
pub extents_more : (table : List Declared) (named : Named) (m : Meaning) (xs : List Extent) (x : Extent) → length xs ≡ length table → AreExtents table xs
    → ((own : List Named) (body : Expression) → m ≡ function own body → (x.weight ≤ 256) × IsExtent table (bytes_of own) body x)
    → AreExtents (table ++ as_meaning named m ∷ []) (xs ++ x ∷ [])
extents_more table named m xs x same extents last place own body is =
    elim (at_append table (as_meaning named m) place (function own body) is) [
      | inl h ↦
          let lt = h.0 in
          let e = extents place own body h.1 in (
            e.0,
            slice_get-append xs x place e.0 e.1,
            e.2,
            subst (λ l. IsExtent l (bytes_of own) body e.0) (sym (take_before table (as_meaning named m) place (omega arith))) e.3,
          )
      | inr h ↦
          let all = h.0 in
          let e = last own body h.1 in (
            x,
            slice_get-last xs x place (omega arith),
            e.0,
            subst (λ l. IsExtent l (bytes_of own) body x)
                (sym (take_before table (as_meaning named m) place (omega arith) ∙ ap (λ n. take n table) all ∙ take_whole table)) e.1,
          )
    ]

-- where bodies have no fault, the table is sound
names_of-varying : (own : List Named) → names_of (varying own) ≡ bytes_of own
names_of-varying [] = refl
names_of-varying (p ∷ own) = ap (λ l. p.bytes ∷ l) (names_of-varying own)

none_private : (a : Bool) (o : Option Meaning) → sense_by a o false ≡ private_name → ⊥
none_private true o is = cc
none_private false None is = cc
none_private false (Some m) is = cc

nothing_private : (table : List Declared) (own : List Named) (name : List ℕ) → sense_of (body_scope table own) name ≡ private_name → ⊥
nothing_private table own name is = none_private (is_among (names_of (varying own)) name) (meaning_of table name) is

length_of_front : (table : List Declared) (place : ℕ) (m : Meaning) → meaning_at table place ≡ Some m → length (take place table) ≡ place
length_of_front table zero m is = refl
length_of_front [] (suc place) m is = absurd (cc)
length_of_front (x ∷ table) (suc place) m is = ap suc (length_of_front table place m is)

pub sound : (table : List Declared) → AreBodiesClean table → IsSound table
sound table clean place own body is =
    let front = take place table in
    let whole : front ++ drop place table ≡ table = take-append-drop place table in
    let long : length front ≡ place = length_of_front table place (function own body) is in
    let w = clean_is_well (body_scope front own) (drop place table) body (λ name private. absurd (nothing_private front own name private)) (clean place own body is) in
    subst (λ l. IsWell l (bytes_of own) place body) whole
    (subst (λ n. IsWell (front ++ drop place table) (bytes_of own) n body) long
    (subst (λ l. IsWell (front ++ drop place table) l (length front) body) (names_of-varying own) w))
