-- Lists made of lists in which nothing stands twice.
use Rattle.std.proofs.Common.{◌≡◌, ◌⊎◌, inl, inr, ◌∙◌, ◌+◌, ℕ, zero, suc, Bool, true, false, Option, Some, None, List, [], ◌∷◌, ◌++◌}
use Rattle.std.proofs.Common.{length, refl, sym, ap, subst, arith}
use Rattle.std.specs.Prelude.{if◌then◌else◌, slice_get}
use Rattle.std.specs.List.{enumerate_from, flat_map, range_with_len}
use Rattle.std.proofs.lemmas.Option.{same_Some}
use Rattle.lrc_text.specs.Each.{each}
use Rattle.lrc_lint_warned.specs.declared.found.Found.{Found}
use Rattle.lrc_lint_warned.specs.declared.found.Kind.{Kind}
use Rattle.lrc_lint_warned.specs.Found.{found_at, found_where}
use Rattle.lrc_lint_warned.specs.Held.{found_if}
use Rattle.lrc_lint_laws.proofs.Listed.{enumerated, in_range_from, zero_more}
use Rattle.lrc_lint_laws.proofs.Traps.{in_flat_at, split_at}
use Rattle.lrc_lint_laws.specs.Once.{IsOnce}

-- something stands in a list
abbrev pub In : {A : Type 0} → List A → A → Type 0
In {A} items x = (i : ℕ) × (slice_get items i ≡ Some x)

pub once_joined : {A : Type 0} (a b : List A) → IsOnce a → IsOnce b → ((x : A) → In a x → In b x → ⊥) → IsOnce (a ++ b)
once_joined a b one other apart i j x is also = by (split_at a b i x is) (split_at a b j x also)
  where
    by : (slice_get a i ≡ Some x) ⊎ ((k : ℕ) × (slice_get b k ≡ Some x) × (length a + k ≡ i))
        → (slice_get a j ≡ Some x) ⊎ ((k : ℕ) × (slice_get b k ≡ Some x) × (length a + k ≡ j)) → i ≡ j
    by (inl h) (inl g) = one i j x h g
    by (inl h) (inr (l, g, same)) = absurd (apart x (i, h) (l, g))
    by (inr (k, h, same)) (inl g) = absurd (apart x (j, g) (k, h))
    by (inr (k, h, same)) (inr (l, g, too)) = sym same ∙ ap (λ n. length a + n) (other k l x h g) ∙ too

pub in_flat_at_some : {A B : Type 0} (f : A → List B) (xs : List A) (y : B) → In (flat_map f xs) y → (k : ℕ) × (x : A) × (slice_get xs k ≡ Some x) × In (f x) y
in_flat_at_some f xs y (j, is) = let one = in_flat_at f xs j y is in (one.k, one.x, one.at, (one.m, one.has))

pub once_none : {A : Type 0} → IsOnce {A = A} []
once_none i j x is also = cc

pub once_flat : {A B : Type 0} (f : A → List B) (xs : List A) → ((k : ℕ) (x : A) → slice_get xs k ≡ Some x → IsOnce (f x))
    → ((k l : ℕ) (x y : A) (z : B) → slice_get xs k ≡ Some x → slice_get xs l ≡ Some y → In (f x) z → In (f y) z → k ≡ l) → IsOnce (flat_map f xs)
once_flat f [] each apart = once_none
once_flat f (x ∷ xs) each apart =
    once_joined (f x) (flat_map f xs) (each 0 x refl)
    (once_flat f xs (λ k y is. each (suc k) y is) (λ k l y w z is also one other. down k l (apart (suc k) (suc l) y w z is also one other)))
    (λ z one other.
    let (k, y, is, has) = in_flat_at_some f xs z other in
    not_zero k (apart 0 (suc k) x y z refl is one has))
  where
    down : (k l : ℕ) → suc k ≡ suc l → k ≡ l
    down k l same = omega (arith, same)

    not_zero : (k : ℕ) → 0 ≡ suc k → ⊥
    not_zero k same = omega (arith, same)

pub once_each : {A B : Type 0} (f : ℕ → A → List B) (xs : List A) → ((k : ℕ) (x : A) → IsOnce (f k x))
    → ((k l : ℕ) (x y : A) (z : B) → slice_get xs k ≡ Some x → slice_get xs l ≡ Some y → In (f k x) z → In (f l y) z → k ≡ l) → IsOnce (each f xs)
once_each f xs one apart =
    once_flat (λ at. f at.0 at.1) (enumerate_from 0 xs) (λ k p is. one p.0 p.1)
    (λ k l p q z is also has too.
    let h = enumerated 0 xs k p is in
    let g = enumerated 0 xs l q also in
    apart k l p.1 q.1 z h.1 g.1 (subst (λ n. In (f n p.1) z) (h.0 ∙ zero_more k) has) (subst (λ n. In (f n q.1) z) (g.0 ∙ zero_more l) too))

pub in_each_at : {A B : Type 0} (f : ℕ → A → List B) (xs : List A) (y : B) → In (each f xs) y → (k : ℕ) × (x : A) × (slice_get xs k ≡ Some x) × In (f k x) y
in_each_at f xs y has =
    let (k, p, is, h) = in_flat_at_some (λ at. f at.0 at.1) (enumerate_from 0 xs) y has in
    let g = enumerated 0 xs k p is in
    (k, p.1, g.1, subst (λ n. In (f n p.1) y) (g.0 ∙ zero_more k) h)

pub range_once : (many k l x y : ℕ) → slice_get (range_with_len 0 many) k ≡ Some x → slice_get (range_with_len 0 many) l ≡ Some y → x ≡ y → k ≡ l
range_once many k l x y is also same =
    let h = in_range_from 0 many k x is in let g = in_range_from 0 many l y also in omega (arith, h.0, g.0, same)

-- ---- lists of one at most

pub once_one : {A : Type 0} (x : A) → IsOnce (x ∷ [])
once_one x zero zero y is also = refl
once_one x zero (suc j) y is also = cc
once_one x (suc i) j y is also = cc

pub in_one_at : {A : Type 0} (x y : A) → In (x ∷ []) y → x ≡ y
in_one_at x y (zero, is) = same_Some x y is
in_one_at x y (suc i, is) = cc

pub in_none_at : {A : Type 0} (y : A) → In [] y → ⊥
in_none_at y (i, is) = cc

pub once_found_at : (at : ℕ) (o : Option Kind) → IsOnce (found_at at o)
once_found_at at None = once_none
once_found_at at (Some kind) = once_one (record { at = at; kind = kind })

pub in_found_at_some : (at : ℕ) (o : Option Kind) (f : Found) → In (found_at at o) f → (at ≡ f.at) × (o ≡ Some f.kind)
in_found_at_some at None f has = absurd (in_none_at f has)
in_found_at_some at (Some kind) f has =
    let same = in_one_at (record { at = at; kind = kind }) f has in (ap (λ (g : Found). g.at) same, ap (λ (g : Found). Some g.kind) same)

pub once_found_where : (o : Option ℕ) (kind : Kind) → IsOnce (found_where o kind)
once_found_where None kind = once_none
once_found_where (Some at) kind = once_one (record { at = at; kind = kind })

pub in_found_where_some : (o : Option ℕ) (kind : Kind) (f : Found) → In (found_where o kind) f → kind ≡ f.kind
in_found_where_some None kind f has = absurd (in_none_at f has)
in_found_where_some (Some at) kind f has = ap (λ (g : Found). g.kind) (in_one_at (record { at = at; kind = kind }) f has)

pub once_found_if : (holds : Bool) (at : ℕ) (kind : Kind) → IsOnce (found_if holds at kind)
once_found_if false at kind = once_none
once_found_if true at kind = once_one (record { at = at; kind = kind })

pub in_found_if_some : (holds : Bool) (at : ℕ) (kind : Kind) (f : Found) → In (found_if holds at kind) f → (at ≡ f.at) × (kind ≡ f.kind)
in_found_if_some false at kind f has = absurd (in_none_at f has)
in_found_if_some true at kind f has =
    let same = in_one_at (record { at = at; kind = kind }) f has in (ap (λ (g : Found). g.at) same, ap (λ (g : Found). g.kind) same)

-- a list that is left out, or not
pub once_if : {A : Type 0} (b : Bool) (xs ys : List A) → IsOnce xs → IsOnce ys → IsOnce (if b then xs else ys)
once_if true xs ys one other = one
once_if false xs ys one other = other

pub in_unless : {A : Type 0} (b : Bool) (xs : List A) (x : A) → In (if b then [] else xs) x → In xs x
in_unless true xs x has = absurd (in_none_at x has)
in_unless false xs x has = has

pub in_where : {A : Type 0} (b : Bool) (xs : List A) (x : A) → In (if b then xs else []) x → In xs x
in_where true xs x has = has
in_where false xs x has = absurd (in_none_at x has)
