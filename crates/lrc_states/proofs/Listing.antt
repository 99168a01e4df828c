-- One item more of a list with commas.
use Rattle.std.proofs.Common.{◌≡◌, ◌∙◌, ◌+◌, ◌<◌, ◌++◌, ℕ, List, ap, sym, append_assoc, arith, get_or, length, map, take}
use Rattle.std.specs.Prelude.{codes}
use Rattle.std.proofs.lemmas.List.{get_or-map, length-map}
use Rattle.lrc_text.specs.Each.{each}
use Rattle.lrc_text.proofs.Each.{each_more}
use Rattle.lrc_messages.specs.Lists.{before, separated}

pub each_next : {X : Type 0} (of : ℕ → X → List ℕ) (items : List X) (i : ℕ) (d : X) (start now next : List ℕ) → i < length items
    → now ≡ start ++ each of (take i items) → next ≡ now ++ of i (get_or items i d) → next ≡ start ++ each of (take (i + 1) items)
each_next of items i d start now next inside so_far more =
    more ∙ ap (λ l. l ++ of i (get_or items i d)) so_far ∙ append_assoc start (each of (take i items)) (of i (get_or items i d))
    ∙ ap (λ l. start ++ l) (sym (each_more of items i d inside))

pub separated_next : {X : Type 0} (of : X → List ℕ) (items : List X) (i : ℕ) (d : X) (start now next : List ℕ) → i < length items
    → now ≡ start ++ separated (codes ",") of (take i items) → next ≡ now ++ before i (codes ",") ++ of (get_or items i d)
    → next ≡ start ++ separated (codes ",") of (take (i + 1) items)
separated_next of items i d start now next inside so_far more =
    each_next (λ place item. before place (codes ",") ++ of item) items i d start now next inside so_far
    (more ∙ append_assoc now (before i (codes ",")) (of (get_or items i d)))

-- the same of what is seen of the items
pub mapped_next : {X Y : Type 0} (f : X → Y) (of : Y → List ℕ) (items : List X) (i : ℕ) (d : X) (start now next : List ℕ) → i < length items
    → now ≡ start ++ separated (codes ",") of (take i (map f items)) → next ≡ now ++ before i (codes ",") ++ of (f (get_or items i d))
    → next ≡ start ++ separated (codes ",") of (take (i + 1) (map f items))
mapped_next f of items i d start now next inside so_far more =
    separated_next of (map f items) i (f d) start now next (omega (arith, length-map items f, inside)) so_far
    (more ∙ ap (λ y. now ++ before i (codes ",") ++ of y) (sym (get_or-map f items i d (f d) inside)))

-- the same of an item that is found there
pub separated_at : {X : Type 0} (of : X → List ℕ) (items : List X) (i : ℕ) (x : X) (start now next : List ℕ) → x ≡ get_or items i x → i < length items
    → now ≡ start ++ separated (codes ",") of (take i items) → next ≡ now ++ before i (codes ",") ++ of x
    → next ≡ start ++ separated (codes ",") of (take (i + 1) items)
separated_at of items i x start now next at inside so_far more =
    separated_next of items i x start now next inside so_far (more ∙ ap (λ y. now ++ before i (codes ",") ++ of y) at)
