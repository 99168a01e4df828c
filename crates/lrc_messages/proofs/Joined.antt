-- One item more of a list in words.
use Rattle.std.proofs.Common.{◌≡◌, ◌∙◌, ◌+◌, ◌++◌, ℕ, List, ap, sym, append_assoc, take}
use Rattle.std.specs.Prelude.{Some, slice_get}
use Rattle.std.proofs.lemmas.Option.{get_or_from_slice_get, slice_get_within}
use Rattle.lrc_text.specs.Each.{each}
use Rattle.lrc_acts_text.specs.Json.{entry_text, with_commas}
use Rattle.lrc_text.proofs.Each.{each_more}
use Rattle.lrc_messages.specs.Lists.{before, separated}

each_next : {X : Type 0} (of : ℕ → X → List ℕ) (items : List X) (i : ℕ) (x : X) (start now next : List ℕ) → slice_get items i ≡ Some x
    → now ≡ start ++ each of (take i items) → next ≡ now ++ of i x → next ≡ start ++ each of (take (i + 1) items)
each_next of items i x start now next there so_far more =
    more ∙ ap (λ l. l ++ of i x) so_far ∙ append_assoc start (each of (take i items)) (of i x)
    ∙ ap (λ y. start ++ (each of (take i items) ++ of i y)) (sym (get_or_from_slice_get items i x x there))
    ∙ ap (λ l. start ++ l) (sym (each_more of items i x (slice_get_within items i x there)))

pub joined_next : {X : Type 0} (sign : List ℕ) (of : X → List ℕ) (items : List X) (i : ℕ) (x : X) (start now next : List ℕ)
    → slice_get items i ≡ Some x
    → now ≡ start ++ separated sign of (take i items) → next ≡ now ++ before i sign ++ of x
    → next ≡ start ++ separated sign of (take (i + 1) items)
joined_next sign of items i x start now next there so_far more =
    each_next (λ place item. before place sign ++ of item) items i x start now next there so_far
    (more ∙ append_assoc now (before i sign) (of x))

pub commas_next : (items : List ℕ) (i n : ℕ) (start now next : List ℕ) → slice_get items i ≡ Some n
    → now ≡ start ++ with_commas (take i items)
    → next ≡ now ++ entry_text i n → next ≡ start ++ with_commas (take (i + 1) items)
commas_next items i n start now next there so_far more = each_next entry_text items i n start now next there so_far more
