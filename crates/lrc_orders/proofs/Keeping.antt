-- Lists that grow, and items that stand at places of them.
use Rattle.std.proofs.Common.{◌≡◌, ℕ, zero, suc, ◌+◌, ◌<◌, List, [], ◌∷◌, ◌++◌, Bool, true, false, length, refl, sym, subst, ◌∙◌, ap, arith}
use Rattle.std.specs.Prelude.{Some, slice_get, get_or, if◌then◌else◌}
use Rattle.std.proofs.lemmas.List.{append_assoc}
use Rattle.std.proofs.lemmas.Option.{slice_get_within, slice_get-get_or}
use Rattle.lrc_trace.proofs.Positions.{slice_get-front}
use Rattle.lrc_orders.specs.Kept.{Grows}

-- what stood in a list stands there still
pub stands_on : {A : Type 0} {old new : List A} (k : ℕ) (x : A) → Grows old new → slice_get old k ≡ Some x → slice_get new k ≡ Some x
stands_on {old = old} k x g e =
    ap (λ l. slice_get l k) g.is ∙ slice_get-front old g.more k (slice_get_within old k x e) ∙ e

pub grows_not : {A : Type 0} (old new : List A) → new ≡ old → Grows old new
grows_not old new e = record { more = []; is = e ∙ sym (no_more old) }
  where
    no_more : {A : Type 0} (xs : List A) → xs ++ [] ≡ xs
    no_more [] = refl
    no_more (x ∷ xs) = ap (λ ys. x ∷ ys) (no_more xs)

pub grows_again : {A : Type 0} {a b c : List A} → Grows a b → Grows b c → Grows a c
grows_again {a = a} g h = record { more = g.more ++ h.more; is = h.is ∙ ap (λ l. l ++ h.more) g.is ∙ append_assoc a g.more h.more }

pub item_at : {A : Type 0} (xs : List A) (k : ℕ) → k < length xs → (x : A) × (slice_get xs k ≡ Some x)
item_at [] k lt = absurd (omega arith)
item_at (x ∷ xs) zero lt = (x, refl)
item_at (x ∷ xs) (suc k) lt = item_at xs k (omega arith)

-- a list to which an item is put, or which stays
pub put_grows : {A : Type 0} (b : Bool) (old new : List A) (x : A) → new ≡ (if b then old else old ++ x ∷ []) → Grows old new
put_grows true old new x is = grows_not old new is
put_grows false old new x is = record { more = x ∷ []; is = is }

-- the item at a place of a slice
pub item_in : {A : Type 0} (items slice : List A) (place : ℕ) (held : A) → slice ≡ items → place < length items → held ≡ get_or slice place held
    → slice_get items place ≡ Some held
item_in items slice place held are lt is =
    ap (λ l. slice_get l place) (sym are) ∙ slice_get-get_or slice place held (subst (λ l. place < length l) (sym are) lt) ∙ ap Some (sym is)
