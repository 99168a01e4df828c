-- The places of names, from the last name to the first.
use Rattle.std.proofs.Common.{◌≡◌, ◌<◌, ◌≤◌, ◌+◌, ◌-◌, ◌||◌, ℕ, zero, suc, Bool, true, false, cond, ltb, List, [], ◌∷◌, Bor, map, length, drop, take, get_or, refl, sym, ap, ◌∙◌, arith, add-one}
use Rattle.std.specs.Prelude.{Option, Some, None, is_some}
use Rattle.std.specs.HashMap as hash
use Rattle.std.specs.HashMap.{HashMap}
use Rattle.std.specs.List.{position_from}
use Rattle.std.specs.Str.{bytes_eq}
use Rattle.std.proofs.Math.Seq.{drop-cons}
use Rattle.std.proofs.lemmas.Bool.{le-ltb, lt-ltb}
use Rattle.lrc_named_tree.specs.declared.tree.Name as code_name
use Rattle.lrc_named_tree.specs.View.{named_of}
use Rattle.lrc_named_constants.specs.Well.{bytes_of, is_among}
use Rattle.lrc_named_expression_faults.specs.Spelled.{is_spelled}

-- the same of the names from the one at i on
abbrev pub ArePlacesFrom : {S : Type 0} → ℕ → List code_name.Name → HashMap (Bor (List ℕ)) ℕ S → Type 0
ArePlacesFrom i names places =
    (bytes : List ℕ) → hash.get_by (λ key. bytes_eq bytes key.now) places ≡ position_from (is_spelled bytes) i (drop i names)

-- one name more in front
pub one_more : {S : Type 0} (names : List code_name.Name) (i : ℕ) (d : code_name.Name) (old new : HashMap (Bor (List ℕ)) ℕ S) → 0 < i → i ≤ length names
    → ArePlacesFrom i names old
    → ((q : Bor (List ℕ)) → hash.get_by (λ key. bytes_eq q.now key.now) new
    ≡ cond (bytes_eq (get_or names (i - 1) d).bytes.now q.now) (Some (i - 1)) (hash.get_by (λ key. bytes_eq q.now key.now) old))
    → ArePlacesFrom (i - 1) names new
one_more names i d old new some within are updates bytes =
    let back : i - 1 + 1 ≡ i = omega (arith, some) in
    let cut : drop (i - 1) names ≡ get_or names (i - 1) d ∷ drop (i - 1 + 1) names = rw add-one (drop-cons names (i - 1) d (omega (arith, some, within))) in
    updates (record { ref_ptr = (0, 0); now = bytes })
    ∙ ap (cond (is_spelled bytes (get_or names (i - 1) d)) (Some (i - 1)))
    (are bytes ∙ ap (λ k. position_from (is_spelled bytes) k (drop k names)) (sym back))
    ∙ sym (ap (position_from (is_spelled bytes) (i - 1)) cut)

-- ---- a name that has a place

some_by : (b : Bool) (i : ℕ) (found : Option ℕ) (among : Bool) → is_some found ≡ among → is_some (cond b (Some i) found) ≡ (b || among)
some_by true i found among h = refl
some_by false i found among h = h

-- what has a place is among the names
pub placed_among : (names : List code_name.Name) (bytes : List ℕ) (i : ℕ) → is_some (position_from (is_spelled bytes) i names) ≡ is_among (bytes_of (map named_of names)) bytes
placed_among [] bytes i = refl
placed_among (name ∷ names) bytes i =
    some_by (is_spelled bytes name) i (position_from (is_spelled bytes) (i + 1) names) (is_among (bytes_of (map named_of names)) bytes) (placed_among names bytes (i + 1))

-- ---- a name that has a place before another one

abbrev pub is_before : Option ℕ → ℕ → Bool
is_before None count = false
is_before (Some place) count = ltb place count

none_by : (b : Bool) (i count : ℕ) (found : Option ℕ) → count ≤ i → is_before found count ≡ false → is_before (cond b (Some i) found) count ≡ false
none_by true i count found past h = le-ltb i count past
none_by false i count found past h = h

-- nothing stands in front of the first place
none_before : (names : List code_name.Name) (bytes : List ℕ) (i count : ℕ) → count ≤ i → is_before (position_from (is_spelled bytes) i names) count ≡ false
none_before [] bytes i count past = refl
none_before (name ∷ names) bytes i count past =
    none_by (is_spelled bytes name) i count (position_from (is_spelled bytes) (i + 1) names) past (none_before names bytes (i + 1) count (omega (arith, past)))

before_by : (b : Bool) (i count : ℕ) (found : Option ℕ) (among : Bool) → is_before found (i + suc count) ≡ among
    → is_before (cond b (Some i) found) (i + suc count) ≡ (b || among)
before_by true i count found among h = lt-ltb i (i + suc count) (omega arith)
before_by false i count found among h = h

before_among_from : (names : List code_name.Name) (bytes : List ℕ) (i count : ℕ)
    → is_before (position_from (is_spelled bytes) i names) (i + count) ≡ is_among (bytes_of (map named_of (take count names))) bytes
before_among_from [] bytes i zero = refl
before_among_from [] bytes i (suc count) = refl
before_among_from (name ∷ names) bytes i zero = none_before (name ∷ names) bytes i (i + 0) (omega arith)
before_among_from (name ∷ names) bytes i (suc count) =
    let next : i + 1 + count ≡ i + suc count = omega arith in
    before_by (is_spelled bytes name) i count (position_from (is_spelled bytes) (i + 1) names) (is_among (bytes_of (map named_of (take count names))) bytes)
    (ap (is_before (position_from (is_spelled bytes) (i + 1) names)) (sym next) ∙ before_among_from names bytes (i + 1) count)

-- what has a place before the one at `count` is among the first so many
pub before_among : (names : List code_name.Name) (bytes : List ℕ) (count : ℕ)
    → is_before (position_from (is_spelled bytes) 0 names) count ≡ is_among (bytes_of (map named_of (take count names))) bytes
before_among names bytes count =
    let same : 0 + count ≡ count = omega arith in
    ap (is_before (position_from (is_spelled bytes) 0 names)) (sym same) ∙ before_among_from names bytes 0 count
