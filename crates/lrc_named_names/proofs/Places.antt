-- The places of the declared names, with one name more.
use Rattle.std.proofs.Common.{◌≡◌, ℕ, suc, ◌≤◌, ◌+◌, Bool, true, false, cond, Option, Some, None, List, [], ◌∷◌, ◌++◌, Bor, map, length, ltb, ltb-false, unwrap_or, refl, sym, ap, subst, ◌∙◌, arith}
use Rattle.std.specs.Prelude.{is_some, not}
use Rattle.std.specs.Cmp.Lexicographic.{bytes_decides}
use Rattle.std.specs.HashMap as hash
use Rattle.std.specs.HashMap.{HashMap}
use Rattle.std.specs.List.{position_from, position_or_len}
use Rattle.std.specs.Str.{bytes_eq}
use Rattle.std.proofs.lemmas.Iterator.Adapters.{position_from-zero}
use Rattle.lrc_named_names.specs.declared.names.Declared as code_declared
use Rattle.lrc_named_names.specs.Names.{Declared, place_of}
use Rattle.lrc_named_names.specs.View.{entry_of}
use Rattle.lrc_named_names.specs.Places.{ArePlaces, is_named}

-- ---- the first place that passes

position-le : {A : Type 0} (p : A → Bool) (xs : List A) → position_or_len p xs ≤ length xs
position-le p [] = omega arith
position-le p (x ∷ xs) = bounded (not (p x)) (position_or_len p xs) (length xs) (position-le p xs)
  where
    bounded : (b : Bool) (n m : ℕ) → n ≤ m → cond b (1 + n) 0 ≤ suc m
    bounded true n m h = omega arith
    bounded false n m h = omega arith

unwrap_or-cond : (b : Bool) (n len : ℕ) → ltb n len ≡ b → n ≤ len → unwrap_or (cond b (Some n) None) len ≡ n
unwrap_or-cond true n len e h = refl
unwrap_or-cond false n len e h = omega (arith, ltb-false n len e)

-- the first place that passes, or how many there are
pub or_length : {A : Type 0} (p : A → Bool) (xs : List A) → unwrap_or (position_from p 0 xs) (length xs) ≡ position_or_len p xs
or_length p xs =
    ap (λ found. unwrap_or found (length xs)) (sym (position_from-zero p xs))
    ∙ unwrap_or-cond (ltb (position_or_len p xs) (length xs)) (position_or_len p xs) (length xs) refl (position-le p xs)

-- the place of what is seen so
pub place_seen : {A B : Type 0} (f : A → B) (p : B → Bool) (xs : List A) → position_or_len p (map f xs) ≡ position_or_len (λ x. p (f x)) xs
place_seen f p [] = refl
place_seen f p (x ∷ xs) = ap (λ n. cond (not (p (f x))) (1 + n) 0) (place_seen f p xs)

-- the place that is found of a name is its first one
pub place_found : (xs : List code_declared.Declared) (name : List ℕ) (found : Option ℕ) → found ≡ position_from (is_named name) 0 xs
    → unwrap_or found (length xs) ≡ place_of (map entry_of xs) name
place_found xs name found is =
    ap (λ f. unwrap_or f (length xs)) is
    ∙ or_length (is_named name) xs
    ∙ sym (place_seen entry_of (λ (d : Declared). bytes_eq d.name name) xs)

-- one more behind
abbrev or_behind : Option ℕ → (passes : Bool) (end : ℕ) → Option ℕ
or_behind (Some at) passes end = Some at
or_behind None passes end = cond passes (Some end) None

or_behind-Some : {A : Type 0} (p : A → Bool) (x : A) (b : Bool) (i : ℕ) (xs : List A)
    → position_from p (i + 1) (xs ++ x ∷ []) ≡ or_behind (position_from p (i + 1) xs) (p x) (i + 1 + length xs)
    → cond b (Some i) (position_from p (i + 1) (xs ++ x ∷ [])) ≡ or_behind (cond b (Some i) (position_from p (i + 1) xs)) (p x) (i + suc (length xs))
or_behind-Some p x true i xs h = refl
or_behind-Some p x false i xs h = h ∙ ap (or_behind (position_from p (i + 1) xs) (p x)) (omega arith)

behind : {A : Type 0} (p : A → Bool) (x : A) (i : ℕ) (xs : List A) → position_from p i (xs ++ x ∷ []) ≡ or_behind (position_from p i xs) (p x) (i + length xs)
behind p x i [] = ap (λ n. cond (p x) (Some n) None) (omega arith)
behind p x i (y ∷ xs) = or_behind-Some p x (p y) i xs (behind p x (i + 1) xs)

behind_all : {A : Type 0} (p : A → Bool) (x : A) (xs : List A) → position_from p 0 (xs ++ x ∷ []) ≡ or_behind (position_from p 0 xs) (p x) (length xs)
behind_all p x xs =
    let same : 0 + length xs ≡ length xs = omega arith in
    behind p x 0 xs ∙ ap (or_behind (position_from p 0 xs) (p x)) same

-- ---- one name more

-- a name that is declared already: each keeps its place
kept : (found : Option ℕ) (passes : Bool) (end : ℕ) → (passes ≡ true → is_some found ≡ true) → found ≡ or_behind found passes end
kept (Some at) passes end h = refl
kept None true end h = let no : false ≡ true = h refl in cc
kept None false end h = refl

pub known_again : {S : Type 0} (xs : List code_declared.Declared) (d : code_declared.Declared) (places : HashMap (Bor (List ℕ)) ℕ S) → ArePlaces xs places
    → is_some (hash.get_by (λ key. bytes_eq d.name.now key.now) places) ≡ true → ArePlaces (xs ++ d ∷ []) places
known_again xs d places are known name =
    are name
    ∙ kept (position_from (is_named name) 0 xs) (is_named name d) (length xs)
    (λ same. ap is_some (sym (are name))
    ∙ subst (λ n. is_some (hash.get_by (λ key. bytes_eq n key.now) places) ≡ true) ((bytes_decides d.name.now name).0 same) known)
    ∙ sym (behind_all (is_named name) d xs)

-- a name that is not declared yet: its place is behind all
put : (found : Option ℕ) (passes : Bool) (end : ℕ) → (passes ≡ true → is_some found ≡ false) → cond passes (Some end) found ≡ or_behind found passes end
put (Some at) true end h = let no : true ≡ false = h refl in cc
put (Some at) false end h = refl
put None passes end h = refl

pub new_behind : {S : Type 0} (xs : List code_declared.Declared) (d : code_declared.Declared) (old new : HashMap (Bor (List ℕ)) ℕ S) → ArePlaces xs old
    → is_some (hash.get_by (λ key. bytes_eq d.name.now key.now) old) ≡ false
    → ((q : Bor (List ℕ)) → hash.get_by (λ key. bytes_eq q.now key.now) new
    ≡ cond (bytes_eq d.name.now q.now) (Some (length xs)) (hash.get_by (λ key. bytes_eq q.now key.now) old))
    → ArePlaces (xs ++ d ∷ []) new
new_behind xs d old new are unknown updates name =
    updates (record { ref_ptr = (0, 0); now = name })
    ∙ ap (cond (is_named name d) (Some (length xs))) (are name)
    ∙ put (position_from (is_named name) 0 xs) (is_named name d) (length xs)
    (λ same. ap is_some (sym (are name))
    ∙ subst (λ n. is_some (hash.get_by (λ key. bytes_eq n key.now) old) ≡ false) ((bytes_decides d.name.now name).0 same) unknown)
    ∙ sym (behind_all (is_named name) d xs)
