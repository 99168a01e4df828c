-- A list of places, each below or beside those before it.
use Rattle.std.proofs.Common.{◌≡◌, ◌∙◌, ◌++◌, ◌∷◌, [], ◌+◌, ◌<◌, ℕ, List, ap, ap₂, get_or, length, subst, sym, take}
use Rattle.std.specs.Prelude.{fold}
use Rattle.std.proofs.lemmas.List.Sums.{fold_more}

-- one more, where the items are seen through a reference
pub one_placed : {X Y : Type 0} (of : List Y → X → Y) (items view : List X) (same : view ≡ items) (i : ℕ) (item : X) (old new : List Y) (place : Y)
    → i < length view → item ≡ get_or view i item → old ≡ fold (λ before x. before ++ of before x ∷ []) [] (take i items) → place ≡ of old item
    → new ≡ old ++ place ∷ [] → new ≡ fold (λ before x. before ++ of before x ∷ []) [] (take (i + 1) items)
one_placed {X} {Y} of items view same i item old new place within is old_is place_is new_is =
    let inside : i < length items = subst (λ (l : List X). i < length l) same within in
    let there : item ≡ get_or items i item = is ∙ ap (λ (l : List X). get_or l i item) same in
    new_is ∙ ap (λ (y : Y). old ++ y ∷ []) place_is ∙ ap₂ (λ (o : List Y) (x : X). o ++ of o x ∷ []) old_is there
    ∙ sym (fold_more (λ (before : List Y) (x : X). before ++ of before x ∷ []) [] items i item inside)
