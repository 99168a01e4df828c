-- What stands for the items of a list, with one item more, behind what stood before them.
use Rattle.std.proofs.Common.{◌≡◌, ◌∙◌, ◌<◌, ◌+◌, ◌++◌, ◌∷◌, [], ℕ, List, ap, sym, append_assoc, get_or, length, map, subst, take}
use Rattle.std.specs.List.{flat_map}
use Rattle.std.proofs.lemmas.List.{flat_map_more, get_or-map, length-map, take_more}
use Rattle.std.specs.Prelude.{None}
use Rattle.lrc_judge.specs.declared.lanes.Pair.{Pair}
use Rattle.lrc_chart_build.specs.declared.part.Place.{Place}
use Rattle.lrc_text.specs.Each.{each}
use Rattle.lrc_text.proofs.Each.{each_more}

pub each_step : {X Y : Type 0} (of : ℕ → X → List Y) (items : List X) (k : ℕ) (d x : X) (start old new : List Y) → k < length items
    → x ≡ get_or items k d → old ≡ start ++ each of (take k items) → new ≡ old ++ of k x
    → new ≡ start ++ each of (take (k + 1) items)
each_step of items k d x start old new within x_is old_is new_is =
    let before = each of (take k items) in
    new_is ∙ ap (λ l. l ++ of k x) old_is ∙ append_assoc start before (of k x)
    ∙ ap (λ l. start ++ l) (ap (λ y. before ++ of k y) x_is ∙ sym (each_more of items k d within))

pub flat_step : {X Y : Type 0} (of : X → List Y) (items : List X) (k : ℕ) (d x : X) (start old new : List Y) → k < length items
    → x ≡ get_or items k d → old ≡ start ++ flat_map of (take k items) → new ≡ old ++ of x
    → new ≡ start ++ flat_map of (take (k + 1) items)
flat_step of items k d x start old new within x_is old_is new_is =
    new_is ∙ ap (λ l. l ++ of x) old_is ∙ flat_map_more of start (take k items) x
    ∙ ap (λ y. start ++ flat_map of (take k items ++ y ∷ [])) x_is
    ∙ ap (λ l. start ++ flat_map of l) (sym (take_more items k d within))

-- the same for what each item stands for
pub map_step : {P X Y : Type 0} (f : P → X) (of : ℕ → X → List Y) (items : List P) (k : ℕ) (d : P) (e : X) (old new : List Y) → k < length items
    → old ≡ each of (take k (map f items)) → new ≡ old ++ of k (f (get_or items k d)) → new ≡ each of (take (k + 1) (map f items))
map_step f of items k d e old new within old_is new_is =
    each_step of (map f items) k e (f (get_or items k d)) [] old new (subst (λ n. k < n) (sym (length-map items f)) within)
    (sym (get_or-map f items k d e within)) old_is new_is

abbrev pub no_place : Place
no_place = record { number = 0; turn = 0; act = None }

abbrev pub no_pair : Pair
no_pair = record { later = 0; earlier = 0 }
