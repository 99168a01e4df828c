-- The names whose value is not 0, one name further.
use Rattle.std.proofs.Common.{◌≡◌, ◌∙◌, ◌+◌, ◌<◌, ◌++◌, ℕ, List, [], ◌∷◌, ap, sym, refl, arith, get_or, length, map, take}
use Rattle.std.specs.Prelude.{filter, slice_index}
use Rattle.std.specs.List.{enumerate_from, flat_map}
use Rattle.std.proofs.lemmas.List.{get_or-map, length-map}
use Rattle.std.proofs.lemmas.List.Elements.{filter-append}
use Rattle.lrc_text.specs.Each.{each}
use Rattle.lrc_text.proofs.Each.{each_more}
use Rattle.lrc_lang.specs.Symbol.{Names}
use Rattle.lrc_state_text.specs.Place.{Named}
use Rattle.lrc_states.specs.Names.{is_set, names_set}

-- a name with its value, where that is not 0
abbrev pub set_at : (values : List ℕ) → ℕ → List ℕ → List Named
set_at values i name = filter is_set (record { name = name; value = slice_index values i } ∷ [])

numbered : (n : ℕ) (names : Names) (values : List ℕ)
    → filter is_set (map (λ at. record { name = at.1; value = slice_index values at.0 }) (enumerate_from n names))
    ≡ flat_map (λ at. set_at values at.0 at.1) (enumerate_from n names)
numbered n [] values = refl
numbered n (name ∷ names) values =
    let of : ℕ × List ℕ → Named = λ at. record { name = at.1; value = slice_index values at.0 } in
    filter-append is_set (of (n, name) ∷ []) (map of (enumerate_from (n + 1) names))
    ∙ ap (λ l. set_at values n name ++ l) (numbered (n + 1) names values)

-- one name more
pub named_more : (names : Names) (values : List ℕ) (i : ℕ) (name : List ℕ) (value : ℕ) (now next : List Named) → i < length names
    → name ≡ get_or names i name → value ≡ slice_index values i → now ≡ names_set (take i names) values
    → next ≡ now ++ filter is_set (record { name = name; value = value } ∷ []) → next ≡ names_set (take (i + 1) names) values
named_more names values i name value now next within is value_is so_far more =
    more ∙ ap (λ l. l ++ filter is_set (record { name = name; value = value } ∷ [])) (so_far ∙ numbered 0 (take i names) values)
    ∙ ap (λ v. each (set_at values) (take i names) ++ filter is_set (record { name = name; value = v } ∷ [])) value_is
    ∙ ap (λ l. each (set_at values) (take i names) ++ set_at values i l) is
    ∙ sym (each_more (set_at values) names i name within)
    ∙ sym (numbered 0 (take (i + 1) names) values)

-- the same of the names that are seen of some items
pub named_next : {X : Type 0} (f : X → List ℕ) (items : List X) (values : List ℕ) (i : ℕ) (d : X) (value : ℕ) (now next : List Named) → i < length items
    → value ≡ slice_index values i → now ≡ names_set (take i (map f items)) values
    → next ≡ now ++ filter is_set (record { name = f (get_or items i d); value = value } ∷ []) → next ≡ names_set (take (i + 1) (map f items)) values
named_next f items values i d value now next within value_is so_far more =
    named_more (map f items) values i (f (get_or items i d)) value now next (omega (arith, length-map items f, within))
    (sym (get_or-map f items i d (f (get_or items i d)) within)) value_is so_far more
