-- What is in lists that are made of others, and the places of tokens.
use Rattle.std.proofs.Common.{◌≡◌, inl, inr, ◌∙◌, ◌<◌, ◌≤◌, ◌+◌, ℕ, zero, suc, Bool, true, false, Option, Some, None, List, [], ◌∷◌, ◌++◌, length}
use Rattle.std.proofs.Common.{map, drop, refl, sym, ap, ap₂, subst, arith}
use Rattle.std.specs.Prelude.{◌||◌, if◌then◌else◌, slice_get, slice_index_or}
use Rattle.std.specs.List.{Contains, enumerate_from, flat_map, list_any, range_with_len, zip}
use Rattle.std.proofs.lemmas.List.Elements.{Contains-append_cases}
use Rattle.std.proofs.lemmas.Option.{same_Some}
use Rattle.lrc_lang.specs.Token.{Token}
use Rattle.lrc_text.specs.Each.{each}
use Rattle.lrc_lint_warned.specs.declared.found.Found.{Found}
use Rattle.lrc_lint_warned.specs.declared.found.Kind.{Kind}
use Rattle.lrc_lint_warned.specs.declared.places.Scan.{Scan}
use Rattle.lrc_lint_warned.specs.Found.{found_at, found_where}
use Rattle.lrc_lint_warned.specs.Held.{found_if}
use Rattle.lrc_lint_warned.specs.Places.{is_seam, is_wanted, places_from}

-- ---- lists made of lists

pub in_none : {A : Type 0} (x : A) → Contains [] x → ⊥
in_none x c = omega (arith, c.1)

pub in_one : {A : Type 0} (x y : A) → Contains (x ∷ []) y → x ≡ y
in_one x y (zero, lt, is) = is
in_one x y (suc k, lt, is) = absurd (omega (arith, lt))

pub record InOne {A B : Type 0} (f : A → List B) (xs : List A) (y : B) : Type 0 where
  pub k : ℕ
  pub x : A
  pub at : slice_get xs k ≡ Some x
  pub has : Contains (f x) y

pub in_flat : {A B : Type 0} (f : A → List B) (xs : List A) (y : B) → Contains (flat_map f xs) y → InOne f xs y
in_flat f [] y c = absurd (in_none y c)
in_flat f (x ∷ xs) y c =
    elim (Contains-append_cases (f x) (flat_map f xs) y c) [
      | inl h ↦ record { k = 0; x = x; at = refl; has = h }
      | inr h ↦ let one = in_flat f xs y h in record { k = suc one.k; x = one.x; at = one.at; has = one.has }
    ]

pub enumerated : {A : Type 0} (n : ℕ) (xs : List A) (k : ℕ) (p : ℕ × A) → slice_get (enumerate_from n xs) k ≡ Some p
    → (p.0 ≡ n + k) × (slice_get xs k ≡ Some p.1)
enumerated n [] k p is = cc
enumerated n (x ∷ xs) zero p is =
    let same = same_Some (n, x) p is in
    (ap (λ (q : ℕ × _). q.0) (sym same) ∙ omega arith, ap (λ (q : ℕ × _). Some q.1) same)
enumerated n (x ∷ xs) (suc k) p is = let h = enumerated (n + 1) xs k p is in (omega (arith, h.0), h.1)

pub zero_more : (k : ℕ) → 0 + k ≡ k
zero_more k = omega arith

pub record InEach {A B : Type 0} (f : ℕ → A → List B) (xs : List A) (y : B) : Type 0 where
  pub k : ℕ
  pub x : A
  pub at : slice_get xs k ≡ Some x
  pub has : Contains (f k x) y

pub in_each : {A B : Type 0} (f : ℕ → A → List B) (xs : List A) (y : B) → Contains (each f xs) y → InEach f xs y
in_each f xs y c =
    let one = in_flat (λ at. f at.0 at.1) (enumerate_from 0 xs) y c in
    let h = enumerated 0 xs one.k one.x one.at in
    record { k = one.k; x = one.x.1; at = h.1; has = subst (λ n. Contains (f n one.x.1) y) (h.0 ∙ zero_more one.k) one.has }

pub in_range_from : (n many k : ℕ) (x : ℕ) → slice_get (range_with_len n many) k ≡ Some x → (x ≡ n + k) × (k < many)
in_range_from n zero k x is = cc
in_range_from n (suc many) zero x is = (sym (same_Some n x is) ∙ omega arith, omega arith)
in_range_from n (suc many) (suc k) x is = let h = in_range_from (n + 1) many k x is in (omega (arith, h.0), omega (arith, h.1))

pub in_range : (many k x : ℕ) → slice_get (range_with_len 0 many) k ≡ Some x → x < many
in_range many k x is = let h = in_range_from 0 many k x is in omega (arith, h.0, h.1)

length_from : (n many : ℕ) → length (range_with_len n many) ≡ many
length_from n zero = refl
length_from n (suc many) = ap suc (length_from (n + 1) many)

pub length_range : (many : ℕ) → length (range_with_len 0 many) ≡ many
length_range many = length_from 0 many

pub in_found_at : (at : ℕ) (o : Option Kind) (f : Found) → Contains (found_at at o) f → (at ≡ f.at) × (o ≡ Some f.kind)
in_found_at at None f c = absurd (in_none f c)
in_found_at at (Some kind) f c =
    let same = in_one (record { at = at; kind = kind }) f c in
    (ap (λ (g : Found). g.at) same, ap (λ (g : Found). Some g.kind) same)

pub in_found_where : (o : Option ℕ) (kind : Kind) (f : Found) → Contains (found_where o kind) f → (o ≡ Some f.at) × (kind ≡ f.kind)
in_found_where None kind f c = absurd (in_none f c)
in_found_where (Some at) kind f c =
    let same = in_one (record { at = at; kind = kind }) f c in
    (ap (λ (g : Found). Some g.at) same, ap (λ (g : Found). g.kind) same)

pub in_found_if : (holds : Bool) (at : ℕ) (kind : Kind) (f : Found) → Contains (found_if holds at kind) f
    → (holds ≡ true) × (at ≡ f.at) × (kind ≡ f.kind)
in_found_if false at kind f c = absurd (in_none f c)
in_found_if true at kind f c =
    let same = in_one (record { at = at; kind = kind }) f c in
    (refl, ap (λ (g : Found). g.at) same, ap (λ (g : Found). g.kind) same)

-- ---- lists side by side

pub mapped : {A B : Type 0} (f : A → B) (xs : List A) (k : ℕ) (y : B) → slice_get (map f xs) k ≡ Some y
    → (x : A) × (slice_get xs k ≡ Some x) × (f x ≡ y)
mapped f [] k y is = cc
mapped f (x ∷ xs) zero y is = (x, refl, same_Some (f x) y is)
mapped f (x ∷ xs) (suc k) y is = mapped f xs k y is

pub to_mapped : {A B : Type 0} (f : A → B) (xs : List A) (k : ℕ) (x : A) → slice_get xs k ≡ Some x → slice_get (map f xs) k ≡ Some (f x)
to_mapped f [] k x is = cc
to_mapped f (y ∷ xs) zero x is = ap (λ z. Some (f z)) (same_Some y x is)
to_mapped f (y ∷ xs) (suc k) x is = to_mapped f xs k x is

pub zipped : {A B : Type 0} (xs : List A) (ys : List B) (k : ℕ) (p : A × B) → slice_get (zip xs ys) k ≡ Some p
    → (slice_get xs k ≡ Some p.0) × (slice_get ys k ≡ Some p.1)
zipped [] ys k p is = cc
zipped (x ∷ xs) [] k p is = cc
zipped (x ∷ xs) (y ∷ ys) zero p is =
    let same = same_Some (x, y) p is in (ap (λ (q : _ × _). Some q.0) same, ap (λ (q : _ × _). Some q.1) same)
zipped (x ∷ xs) (y ∷ ys) (suc k) p is = zipped xs ys k p is

pub to_zipped : {A B : Type 0} (xs : List A) (ys : List B) (k : ℕ) (x : A) (y : B) → slice_get xs k ≡ Some x → slice_get ys k ≡ Some y
    → slice_get (zip xs ys) k ≡ Some (x, y)
to_zipped [] ys k x y is also = cc
to_zipped (a ∷ xs) [] k x y is also = cc
to_zipped (a ∷ xs) (b ∷ ys) zero x y is also = ap₂ (λ p q. Some (p, q)) (same_Some a x is) (same_Some b y also)
to_zipped (a ∷ xs) (b ∷ ys) (suc k) x y is also = to_zipped xs ys k x y is also

pub first_dropped : {A : Type 0} (k : ℕ) (xs : List A) (x : A) → slice_get (drop k xs) 0 ≡ Some x → slice_get xs k ≡ Some x
first_dropped zero xs x is = is
first_dropped (suc k) [] x is = cc
first_dropped (suc k) (y ∷ xs) x is = first_dropped k xs x is

pub joined : {A : Type 0} (before after : List A) (x : A) → slice_get (before ++ x ∷ after) (length before) ≡ Some x
joined [] after x = refl
joined (y ∷ before) after x = joined before after x

pub index_or : {A : Type 0} (xs : List A) (k : ℕ) (x d : A) → slice_get xs k ≡ Some x → slice_index_or xs k d ≡ x
index_or [] k x d is = cc
index_or (y ∷ xs) zero x d is = same_Some y x is
index_or (y ∷ xs) (suc k) x d is = index_or xs k x d is

-- a test that no element passes
pub passes_none : {A : Type 0} (test : A → Bool) (xs : List A) (k : ℕ) (x : A) → list_any test xs ≡ false → slice_get xs k ≡ Some x → test x ≡ false
passes_none test [] k x none is = cc
passes_none test (y ∷ xs) k x none is = by (test y) refl none k is (λ j at fails. passes_none test xs j x fails at)
  where
    by : (b : Bool) → test y ≡ b → (b || list_any test xs) ≡ false → (k : ℕ) → slice_get (y ∷ xs) k ≡ Some x
        → ((j : ℕ) → slice_get xs j ≡ Some x → list_any test xs ≡ false → test x ≡ false) → test x ≡ false
    by true here fails k at further = cc
    by false here fails zero at further = ap test (sym (same_Some y x at)) ∙ here
    by false here fails (suc k) at further = further k at fails

-- ---- the places of tokens ascend

module _ (scan : Scan) where
  abbrev From : Bool → ℕ → List ℕ → List ℕ
  From b at rest = (if b then at ∷ [] else []) ++ rest

  least : (at : ℕ) (behind : Bool) (tokens : List Token) (i p : ℕ) → slice_get (places_from scan at behind tokens) i ≡ Some p → at ≤ p
  least at behind [] i p is = cc
  least at behind (t ∷ more) i p is = by (is_wanted scan behind t) i is (λ k here. least (at + 1) (is_seam t) more k p here)
    where
      by : (b : Bool) (i : ℕ) → slice_get (From b at (places_from scan (at + 1) (is_seam t) more)) i ≡ Some p
          → ((k : ℕ) → slice_get (places_from scan (at + 1) (is_seam t) more) k ≡ Some p → at + 1 ≤ p) → at ≤ p
      by true zero is further = let h = same_Some at p is in omega (arith, h)
      by true (suc i) is further = omega (arith, further i is)
      by false i is further = omega (arith, further i is)

  once_from : (b : Bool) (at p : ℕ) (rest : List ℕ) (i k : ℕ) → slice_get (From b at rest) i ≡ Some p → slice_get (From b at rest) k ≡ Some p
      → ((j : ℕ) → slice_get rest j ≡ Some p → at + 1 ≤ p) → ((j l : ℕ) → slice_get rest j ≡ Some p → slice_get rest l ≡ Some p → j ≡ l) → i ≡ k
  once_from true at p rest zero zero is also above once = refl
  once_from true at p rest zero (suc k) is also above once = let h = same_Some at p is in absurd (omega (arith, h, above k also))
  once_from true at p rest (suc i) zero is also above once = let h = same_Some at p also in absurd (omega (arith, h, above i is))
  once_from true at p rest (suc i) (suc k) is also above once = ap suc (once i k is also)
  once_from false at p rest i k is also above once = once i k is also

  -- no place comes twice
  pub place_once : (at : ℕ) (behind : Bool) (tokens : List Token) (i k p : ℕ) → slice_get (places_from scan at behind tokens) i ≡ Some p
      → slice_get (places_from scan at behind tokens) k ≡ Some p → i ≡ k
  place_once at behind [] i k p is also = cc
  place_once at behind (t ∷ more) i k p is also =
      once_from (is_wanted scan behind t) at p (places_from scan (at + 1) (is_seam t) more) i k is also
      (λ j here. least (at + 1) (is_seam t) more j p here)
      (λ j l one other. place_once (at + 1) (is_seam t) more j l p one other)
