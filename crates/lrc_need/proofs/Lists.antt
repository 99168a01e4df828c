-- Lists that are changed element by element.
use Rattle.std.proofs.Common.{⊎_elim, inl, inr, ◌≡◌, ◌≢◌, ℕ, zero, suc, ◌<◌, Bool, true, false, List, [], ◌∷◌}
use Rattle.std.proofs.Common.{◌++◌, map, length, take, drop, refl, sym, ap, ◌∙◌, arith}
use Rattle.std.specs.Prelude.{slice_index_or, slice_set, ◌==◌, cond, ◌⊎◌}
use Rattle.std.specs.List.{All, AllPairs}
use Rattle.std.proofs.lemmas.List.{ext_get_or, get_or_default}
use Rattle.std.proofs.lemmas.Bool.{false_from_ne_true, ne_eqb}
use lib.Pointwise.{pointwise, bytes_decides}
use Rattle.lrc_protocol.specs.Pages.{Need, come, page_came}

-- ---- the first elements changed, the others as they were

pub changed_at : {X : Type 0} (f : X → X) (xs : List X) (i : ℕ) (d : X) → i < length xs
    → slice_index_or (map f (take i xs) ++ drop i xs) i d ≡ slice_index_or xs i d
changed_at f [] i d h = absurd (omega (arith, h))
changed_at f (x ∷ xs) zero d h = refl
changed_at f (x ∷ xs) (suc i) d h = changed_at f xs i d (omega (arith, h))

pub changed_more : {X : Type 0} (f : X → X) (xs : List X) (i : ℕ) (d : X) → i < length xs
    → slice_set (map f (take i xs) ++ drop i xs) i (f (slice_index_or xs i d)) ≡ map f (take (suc i) xs) ++ drop (suc i) xs
changed_more f [] i d h = absurd (omega (arith, h))
changed_more f (x ∷ xs) zero d h = refl
changed_more f (x ∷ xs) (suc i) d h = ap (λ l. f x ∷ l) (changed_more f xs i d (omega (arith, h)))

-- ---- one element changed

-- what changes nothing that passes a test
pub map-same : {X : Type 0} (P : X → Type 0) (f : X → X) → ((x : X) → P x → f x ≡ x) → (xs : List X) → All P xs → map f xs ≡ xs
map-same P f h [] a = refl
map-same P f h (x ∷ xs) a =
    ap (λ y. y ∷ map f xs) (h x (a zero x (omega arith))) ∙ ap (λ l. x ∷ l) (map-same P f h xs (λ k d lt. a (suc k) d (omega (arith, lt))))

pub map-one : {X : Type 0} (P : X → Type 0) (f : X → X) → ((x : X) → P x → f x ≡ x) → (xs : List X) (i : ℕ) (d : X) → i < length xs
    → ((j : ℕ) (e : X) → j < length xs → j ≢ i → P (slice_index_or xs j e))
    → slice_set xs i (f (slice_index_or xs i d)) ≡ map f xs
map-one P f h [] i d lt a = absurd (omega (arith, lt))
map-one P f h (x ∷ xs) zero d lt a =
    ap (λ l. f x ∷ l) (sym (map-same P f h xs (λ k e within. a (suc k) e (omega (arith, within)) (λ z. cc))))
map-one P f h (x ∷ xs) (suc i) d lt a =
    ap (λ y. y ∷ slice_set xs i (f (slice_index_or xs i d))) (sym (h x (a zero x (omega arith) (λ z. cc))))
    ∙ ap (λ l. f x ∷ l) (map-one P f h xs i d (omega (arith, lt)) (λ j e within other. a (suc j) e (omega (arith, within)) (λ z. other (omega (arith, z)))))

-- ---- two lists of numbers

pub lists_differ : (xs ys : List ℕ) (k : ℕ) → slice_index_or xs k 0 ≢ slice_index_or ys k 0 → false ≡ pointwise ◌==◌ xs ys
lists_differ xs ys k h =
    sym (false_from_ne_true (pointwise ◌==◌ xs ys) (λ same. h (ap (λ l. slice_index_or l k 0) ((bytes_decides xs ys).0 same))))

pub lists_agree : (xs ys : List ℕ) → length xs ≡ length ys → ((k : ℕ) → k < length xs → slice_index_or xs k 0 ≡ slice_index_or ys k 0)
    → true ≡ pointwise ◌==◌ xs ys
lists_agree xs ys long h = sym ((bytes_decides xs ys).1 (ext_get_or 0 xs ys long h))

-- ---- needs

-- a need of another page stays
pub page-other : (page : ℕ) (values : List ℕ) (need : Need) → need.page ≢ page → page_came page values need ≡ need
page-other page values need other =
    by_test (need.page == page) (ne_eqb need.page page other)
  where
    by_test : (b : Bool) → b ≡ false → cond b (record need { base = come values }) need ≡ need
    by_test true e = cc
    by_test false e = refl

apart_by : (j i : ℕ) → j ≢ i → (j < i) ⊎ (i < j)
apart_by zero zero other = absurd (other refl)
apart_by zero (suc i) other = inl (omega arith)
apart_by (suc j) zero other = inr (omega arith)
apart_by (suc j) (suc i) other =
    ⊎_elim (λ below. inl (omega (arith, below))) (λ above. inr (omega (arith, above))) (apart_by j i (λ e. other (omega (arith, e))))

-- where no two needs are of one page, one need of a page is changed
pub page-one : (page : ℕ) (values : List ℕ) (needs : List Need) (i : ℕ) (d : Need) → i < length needs
    → (slice_index_or needs i d).page ≡ page → AllPairs (λ a b. a.page ≢ b.page) needs
    → slice_set needs i (page_came page values (slice_index_or needs i d)) ≡ map (page_came page values) needs
page-one page values needs i d within here apart =
    map-one (λ need. need.page ≢ page) (page_came page values) (page-other page values) needs i d within
    (λ j e inside other same. ⊎_elim
    (λ below. apart j i d below within (ap (λ (n : Need). n.page) (get_or_default needs j d e inside) ∙ same ∙ sym here))
    (λ above. apart i j d above inside (here ∙ sym same ∙ ap (λ (n : Need). n.page) (get_or_default needs j e d inside)))
    (apart_by j i other))
