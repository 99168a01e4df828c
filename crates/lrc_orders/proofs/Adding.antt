-- An item that is put to a list, if it is new.
use Rattle.std.proofs.Common.{◌≡◌, ℕ, zero, suc, ◌<◌, List, [], ◌∷◌, ◌++◌, ◌||◌, Bool, true, false, length, refl, ◌∙◌, ap, arith}
use Rattle.std.specs.Prelude.{get_or, not, if◌then◌else◌}
use Rattle.std.specs.List.{list_any, position_or_len}
use Rattle.std.proofs.lemmas.List.{length_push}
use Rattle.std.proofs.lemmas.List.Sums.{position_or_len_is}
use Rattle.lrc_orders.specs.Kept.{IsAddedAt}

first_false : (a b : Bool) → (a || b) ≡ false → a ≡ false
first_false true b e = cc
first_false false b e = refl

second_false : (a b : Bool) → (a || b) ≡ false → b ≡ false
second_false true b e = cc
second_false false b e = e

each_fails : {A : Type 0} (test : A → Bool) (xs : List A) (d : A) → list_any test xs ≡ false → (k : ℕ) → k < length xs → test (get_or xs k d) ≡ false
each_fails test [] d e k lt = absurd (omega arith)
each_fails test (x ∷ xs) d e zero lt = first_false (test x) (list_any test xs) e
each_fails test (x ∷ xs) d e (suc k) lt = each_fails test xs d (second_false (test x) (list_any test xs) e) k (omega arith)

-- where none passes, the first place that passes is the end
none_passes : {A : Type 0} (test : A → Bool) (xs : List A) (d : A) → list_any test xs ≡ false → position_or_len test xs ≡ length xs
none_passes test xs d e =
    position_or_len_is test xs (length xs) d (omega arith) (each_fails test xs d e) (λ lt. absurd (omega (arith, lt)))

-- an item that is put to a list, if it is new
pub added_at : {A : Type 0} (E : A → A → Bool) (old new : List A) (item : A) (place : ℕ) (b added : Bool) → list_any (E item) old ≡ b → added ≡ not b
    → new ≡ (if b then old else old ++ item ∷ []) → place ≡ position_or_len (E item) old → IsAddedAt (length old) (length new) place added
added_at E old new item place true true has is keys at = cc
added_at E old new item place true false has is keys at = ap length keys
added_at E old new item place false true has is keys at = (at ∙ none_passes (E item) old item has, ap length keys ∙ length_push old item)
added_at E old new item place false false has is keys at = cc
