-- Entries of the maps of a table.
use Rattle.std.proofs.Common.{◌≡◌, ℕ, ◌<◌, List, [], ◌∷◌, Bool, true, length, get_or, map, sym, ◌∙◌, ap, subst, arith}
use Rattle.std.specs.Prelude.{All, None, Some, nat_eq, option_map, position, slice_get}
use Rattle.std.proofs.lemmas.Bool.{and_parts, eqb-true}
use Rattle.std.proofs.lemmas.List.{get_or-map, length-map}
use Rattle.std.proofs.lemmas.List.Quantifiers.{position-Some}
use Rattle.std.proofs.lemmas.Option.{get_or_from_slice_get, slice_get-map, slice_get_within}
use Rattle.lrc_exec.specs.declared.spot.Spot.{Spot}
use Rattle.lrc_orders.proofs.Keeping.{item_at}
use Rattle.lrc_orders_table.specs.declared.table.Asked.{Asked}
use Rattle.lrc_orders_table.specs.declared.table.Change.{Change}
use Rattle.lrc_orders_table.specs.contracts.table.AskedPartialEq.TheImpl.{eq-value as asked_eq}
use Rattle.lrc_orders_table.specs.contracts.table.ChangePartialEq.TheImpl.{eq-value as change_eq}

pub asked_is : (a b : Asked) → asked_eq.it a b ≡ true → a ≡ b
asked_is a b e =
    let p = and_parts (nat_eq a.thread b.thread) (nat_eq a.value b.value) e in
    ap (λ n. record { thread = n; value = a.value }) (eqb-true a.thread b.thread p.0)
    ∙ ap (λ n. record { thread = b.thread; value = n }) (eqb-true a.value b.value p.1)

pub change_is : (a b : Change) → change_eq.it a b ≡ true → a ≡ b
change_is a b e =
    let p = and_parts (nat_eq a.shared b.shared) (nat_eq a.after b.after) e in
    ap (λ n. record { shared = n; after = a.after }) (eqb-true a.shared b.shared p.0)
    ∙ ap (λ n. record { shared = b.shared; after = n }) (eqb-true a.after b.after p.1)

-- the value at a place
pub value_at : {K V : Type 0} (entries : List (K × V)) (k : ℕ) (key : K) (value : V) → slice_get entries k ≡ Some (key, value)
    → slice_get (map (λ (e : K × V). e.1) entries) k ≡ Some value
value_at {K} {V} entries k key value at = slice_get-map (λ (e : K × V). e.1) entries k ∙ ap (option_map (λ (e : K × V). e.1)) at

-- the entry where a key is found
pub found_at : {K V : Type 0} (test : K → Bool) (entries : List (K × V)) (place : ℕ) → Some place ≡ position test (map (λ (e : K × V). e.0) entries)
    → (key : K) × (value : V) × (slice_get entries place ≡ Some (key, value)) × (test key ≡ true)
found_at {K} {V} test [] place e = absurd (let f : Some place ≡ None = e in cc)
found_at {K} {V} test (x ∷ xs) place e =
    let keys = map (λ (y : K × V). y.0) (x ∷ xs) in
    let p = position-Some test keys place x.0 (sym e) in
    let within : place < length (x ∷ xs) = omega (arith, p.0, length-map (x ∷ xs) (λ (y : K × V). y.0)) in
    let (y, at) = item_at (x ∷ xs) place within in
    let key_is : get_or keys place x.0 ≡ y.0 =
    get_or-map (λ (z : K × V). z.0) (x ∷ xs) place x x.0 within ∙ ap (λ (z : K × V). z.0) (get_or_from_slice_get (x ∷ xs) place y x at) in
    (y.0, y.1, at, sym (ap test key_is) ∙ p.1)

-- a spot among those that are all so
pub all_at : (P : Spot → Type 0) (spots : List Spot) (k : ℕ) (spot : Spot) → All P spots → slice_get spots k ≡ Some spot → P spot
all_at P spots k spot all at =
    subst P (get_or_from_slice_get spots k spot spot at) (all k spot (slice_get_within spots k spot at))
