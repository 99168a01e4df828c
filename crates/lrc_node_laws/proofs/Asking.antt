-- What is asked of makers, and what is left of it once one of them has replied.
use Rattle.std.proofs.Common.{◌≡◌, ℕ, List, [], ◌∷◌, Bool, true, false, cond, refl, sym, ap, subst, ◌∙◌, inl, inr, ⊎_elim}
use Rattle.std.specs.Prelude.{None, is_none, All, Contains, not, ◌==◌, ◌&&◌, fold, map, filter, filter_map, nat_lt, slice_index_or, if◌then◌else◌}
use Rattle.std.specs.List.{range_with_len, cons_option}
use Rattle.std.proofs.lemmas.Bool.{cond_both, and_right, false≢true, cases_eq, cases_Bool, eqb-true, eq-eqb, ne_eqb}
use Rattle.std.proofs.lemmas.List.Elements.{All-head, All-tail, All-weaker, Contains-get_or}
use Rattle.lrc_store.specs.declared.key.Key.{Key}
use Rattle.lrc_store.specs.Order.{placed, ascending_part}
use Rattle.lrc_store.specs.Store.{StoreRecord, changes_at}
use Rattle.lrc_store.proofs.Orders.{Contains-first, Contains-later, cases_Contains, none_Contains, filter-Contains}
use Rattle.lrc_envelope.specs.Records.{IndexedChangesRecord}
use Rattle.lrc_protocol.specs.Pages.{Asked, indices_of, some_asked, asked_of, unknown_of, with_part}
use Rattle.lrc_node_laws.proofs.Keys.{IsNoticed, parts-still, parts-here, parts-other}

-- ---- filters

-- tests that agree on each element
pub filter_same : {X : Type 0} (p q : X → Bool) (xs : List X) → All (λ x. p x ≡ q x) xs → filter p xs ≡ filter q xs
filter_same p q [] h = refl
filter_same p q (x ∷ xs) h =
    let rest : filter p xs ≡ filter q xs = filter_same p q xs (All-tail (λ x. p x ≡ q x) x xs h) in
    ap (λ l. cond (p x) (x ∷ l) l) rest ∙ ap (λ b. cond b (x ∷ filter q xs) (filter q xs)) (All-head (λ x. p x ≡ q x) x xs h)

twice_by : {X : Type 0} (q : X → Bool) (x : X) (a : Bool) (xs ys : List X) → xs ≡ filter q ys
    → cond (a && q x) (x ∷ xs) xs ≡ filter q (cond a (x ∷ ys) ys)
twice_by q x true xs ys e = ap (λ l. cond (q x) (x ∷ l) l) e
twice_by q x false xs ys e = e

-- a test of both parts at once
pub filter_twice : {X : Type 0} (r p q : X → Bool) (xs : List X) → All (λ x. r x ≡ (p x && q x)) xs → filter r xs ≡ filter q (filter p xs)
filter_twice r p q [] h = refl
filter_twice r p q (x ∷ xs) h =
    ap (λ b. cond b (x ∷ filter r xs) (filter r xs)) (All-head (λ x. r x ≡ (p x && q x)) x xs h)
    ∙ twice_by q x (p x) (filter r xs) (filter p xs) (filter_twice r p q xs (All-tail (λ x. r x ≡ (p x && q x)) x xs h))

filter_none : {X : Type 0} (xs : List X) → filter (λ x. false) xs ≡ []
filter_none [] = refl
filter_none (x ∷ xs) = filter_none xs

-- ---- elements put in order

placed-here : {X : Type 0} (before : X → X → Bool) (x : X) (xs : List X) → Contains (placed before x xs) x
placed-here before x [] = Contains-first x []
placed-here before x (y ∷ ys) =
    cond_both (before x y) (x ∷ y ∷ ys) (y ∷ placed before x ys) (λ l. Contains l x)
    (λ e. Contains-first x (y ∷ ys)) (λ e. Contains-later y (placed before x ys) x (placed-here before x ys))

placed-there : {X : Type 0} (before : X → X → Bool) (x y : X) (xs : List X) → Contains xs y → Contains (placed before x xs) y
placed-there before x y [] there = absurd (none_Contains y there)
placed-there before x y (z ∷ zs) there =
    cond_both (before x z) (x ∷ z ∷ zs) (z ∷ placed before x zs) (λ l. Contains l y)
    (λ e. Contains-later x (z ∷ zs) y there)
    (λ e. ⊎_elim
    (λ (same : z ≡ y). subst (Contains (z ∷ placed before x zs)) same (Contains-first z (placed before x zs)))
    (λ later. Contains-later z (placed before x zs) y (placed-there before x y zs later))
    (cases_Contains z zs y there))

ordered-contains : {X : Type 0} (before : X → X → Bool) (xs : List X) (y : X) → Contains xs y → Contains (ascending_part before (λ x. true) xs) y
ordered-contains before [] y there = absurd (none_Contains y there)
ordered-contains before (x ∷ xs) y there =
    ⊎_elim
    (λ (same : x ≡ y).
    subst (Contains (placed before x (ascending_part before (λ x. true) xs))) same (placed-here before x (ascending_part before (λ x. true) xs)))
    (λ later. placed-there before x y (ascending_part before (λ x. true) xs) (ordered-contains before xs y later))
    (cases_Contains x xs y there)

map-contains : {X Y : Type 0} (f : X → Y) (xs : List X) (x : X) → Contains xs x → Contains (map f xs) (f x)
map-contains f [] x there = absurd (none_Contains x there)
map-contains f (y ∷ ys) x there =
    ⊎_elim
    (λ (same : y ≡ x). subst (Contains (f y ∷ map f ys)) (ap f same) (Contains-first (f y) (map f ys)))
    (λ later. Contains-later (f y) (map f ys) (f x) (map-contains f ys x later))
    (cases_Contains y ys x there)

-- the index of a key is among those of its maker
pub index-contained : (keys : List Key) (maker : ℕ) (key : Key) → Contains keys key → key.node ≡ maker → Contains (indices_of keys maker) key.index
index-contained keys maker key there e =
    ordered-contains nat_lt (map (λ (key : Key). key.index) (filter (λ (key : Key). key.node == maker) keys)) key.index
    (map-contains (λ (key : Key). key.index) (filter (λ (key : Key). key.node == maker) keys) key
    ((filter-Contains (λ (key : Key). key.node == maker) keys key).1 (there, eq-eqb key.node maker e)))

-- ---- without one maker

abbrev pub not_of : ℕ → Key → Bool
not_of from key = not (key.node == from)

both_of : (from maker : ℕ) → (maker ≡ from → ⊥) → (key : Key) → (key.node == maker) ≡ (not_of from key && (key.node == maker))
both_of from maker ne key = elim (cases_eq key.node maker) [
  | inl same ↦
      let apart : (key.node == from) ≡ false = ne_eqb key.node from (λ e. ne (sym same ∙ e)) in
      ap (λ b. not b && (key.node == maker)) (sym apart)
  | inr other ↦
      let apart : (key.node == maker) ≡ false = ne_eqb key.node maker other in
      apart ∙ sym (and_right (not_of from key) (key.node == maker) apart)
]

neither_of : (from : ℕ) (key : Key) → false ≡ (not_of from key && (key.node == from))
neither_of from key = sym (not_both (key.node == from))
  where
    not_both : (b : Bool) → (not b && b) ≡ false
    not_both true = refl
    not_both false = refl

indices-other : (keys : List Key) (from maker : ℕ) → (maker ≡ from → ⊥) → indices_of (filter (not_of from) keys) maker ≡ indices_of keys maker
indices-other keys from maker ne =
    ap (λ l. ascending_part nat_lt (λ index. true) (map (λ (key : Key). key.index) l))
    (sym (filter_twice (λ (key : Key). key.node == maker) (not_of from) (λ (key : Key). key.node == maker) keys
    (λ k d within. both_of from maker ne (slice_index_or keys k d))))

indices-gone : (keys : List Key) (from : ℕ) → indices_of (filter (not_of from) keys) from ≡ []
indices-gone keys from =
    ap (λ l. ascending_part nat_lt (λ index. true) (map (λ (key : Key). key.index) l))
    (sym (filter_twice (λ (key : Key). false) (not_of from) (λ (key : Key). key.node == from) keys
    (λ k d within. neither_of from (slice_index_or keys k d))) ∙ filter_none keys)

-- what is asked of a maker is of it
some_by : (from maker : ℕ) (b : Bool) (indices : List ℕ) (rest : List Asked) → (maker == from) ≡ b
    → filter (λ (asked : Asked). not (asked.maker == from)) (cons_option (some_asked maker indices) rest)
    ≡ cons_option (if b then None else some_asked maker indices) (filter (λ (asked : Asked). not (asked.maker == from)) rest)
some_by from maker true [] rest e = refl
some_by from maker false [] rest e = refl
some_by from maker true (index ∷ indices) rest e =
    ap
    (λ b. cond (not b) (record { maker = maker; indices = index ∷ indices } ∷ filter (λ (asked : Asked). not (asked.maker == from)) rest)
    (filter (λ (asked : Asked). not (asked.maker == from)) rest)) e
some_by from maker false (index ∷ indices) rest e =
    ap
    (λ b. cond (not b) (record { maker = maker; indices = index ∷ indices } ∷ filter (λ (asked : Asked). not (asked.maker == from)) rest)
    (filter (λ (asked : Asked). not (asked.maker == from)) rest)) e

still_asked : (keys : List Key) (from maker : ℕ) (b : Bool) → (maker == from) ≡ b
    → (if b then None else some_asked maker (indices_of keys maker)) ≡ some_asked maker (indices_of (filter (not_of from) keys) maker)
still_asked keys from maker true e =
    ap (some_asked maker) (sym (ap (indices_of (filter (not_of from) keys)) (eqb-true maker from e) ∙ indices-gone keys from))
still_asked keys from maker false e =
    ap (some_asked maker) (sym (indices-other keys from maker (λ same. absurd (false≢true (sym e ∙ eq-eqb maker from same)))))

asked-left_by : (keys : List Key) (from : ℕ) (makers : List ℕ)
    → filter (λ (asked : Asked). not (asked.maker == from)) (filter_map (λ maker. some_asked maker (indices_of keys maker)) makers)
    ≡ filter_map (λ maker. some_asked maker (indices_of (filter (not_of from) keys) maker)) makers
asked-left_by keys from [] = refl
asked-left_by keys from (maker ∷ makers) =
    some_by from maker (maker == from) (indices_of keys maker) (filter_map (λ maker. some_asked maker (indices_of keys maker)) makers) refl
    ∙ ap (cons_option (if maker == from then None else some_asked maker (indices_of keys maker))) (asked-left_by keys from makers)
    ∙ ap
    (λ o. cons_option o (filter_map (λ maker. some_asked maker (indices_of (filter (not_of from) keys) maker)) makers))
    (still_asked keys from maker (maker == from) refl)

pub asked-left : (nodes : ℕ) (keys : List Key) (from : ℕ)
    → filter (λ (asked : Asked). not (asked.maker == from)) (asked_of nodes keys) ≡ asked_of nodes (filter (not_of from) keys)
asked-left nodes keys from = asked-left_by keys from (range_with_len 0 nodes)

-- ---- what is known after a reply

and_true : (b : Bool) → b ≡ (b && true)
and_true true = refl
and_true false = refl

-- of other pages the same
pub unknown-other : (from page : ℕ) (parts : List IndexedChangesRecord) (store : StoreRecord) (keys : List Key)
    → All (λ (key : Key). key.page ≡ page → ⊥) keys → unknown_of (fold (with_part from page) store parts) keys ≡ unknown_of store keys
unknown-other from page parts store keys h =
    filter_same _ _ keys
    (All-weaker (λ (key : Key). key.page ≡ page → ⊥) (λ (key : Key). is_none (changes_at (fold (with_part from page) store parts) key) ≡ is_none
    (changes_at store key))
    (λ key ne. ap is_none (parts-other from page parts store key (λ n p. ne p))) keys h)

-- of the page, those of other makers
unknown-at : (from page : ℕ) (parts : List IndexedChangesRecord) (store : StoreRecord) (keys : List Key)
    → map (λ (part : IndexedChangesRecord). part.index) parts ≡ indices_of (unknown_of store keys) from
    → (key : Key) → Contains keys key → key.page ≡ page → IsNoticed store key
    → is_none (changes_at (fold (with_part from page) store parts) key) ≡ (is_none (changes_at store key) && not_of from key)
unknown-at from page parts store keys asked key there p n = elim (cases_eq key.node from) [
  | inr other ↦
      let apart : (key.node == from) ≡ false = ne_eqb key.node from other in
      ap is_none (parts-other from page parts store key (λ e q. other e))
      ∙ and_true (is_none (changes_at store key))
      ∙ ap (λ b. is_none (changes_at store key) && not b) (sym apart)
  | inl same ↦
      let here : not_of from key ≡ false = ap not (eq-eqb key.node from same) in
      let gone : is_none (changes_at (fold (with_part from page) store parts) key) ≡ false = elim (cases_Bool (is_none (changes_at store key))) [
        | inr known ↦ parts-still from page parts store key known
        | inl unknown ↦
            let among : Contains (unknown_of store keys) key = (filter-Contains (λ (key : Key). is_none (changes_at store key)) keys key).1 (there, unknown) in
            parts-here from page parts store key same p n
            (subst (λ l. Contains l key.index) (sym asked) (index-contained (unknown_of store keys) from key among same))
      ] in
      gone ∙ sym (and_right (is_none (changes_at store key)) (not_of from key) here)
]

pub unknown-left : (from page : ℕ) (parts : List IndexedChangesRecord) (store : StoreRecord) (keys : List Key)
    → All (λ (key : Key). (key.page ≡ page) × IsNoticed store key) keys
    → map (λ (part : IndexedChangesRecord). part.index) parts ≡ indices_of (unknown_of store keys) from
    → unknown_of (fold (with_part from page) store parts) keys ≡ filter (not_of from) (unknown_of store keys)
unknown-left from page parts store keys h asked =
    filter_twice _ (λ (key : Key). is_none (changes_at store key)) (not_of from) keys
    (λ k d within.
    let is : (_ ≡ page) × IsNoticed store _ = h k d within in
    unknown-at from page parts store keys asked _ (Contains-get_or keys k d within) is.0 is.1)
