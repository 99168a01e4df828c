-- The pieces of a text that are not empty.
use Rattle.std.proofs.Common.{◌≡◌, ◌∙◌, ◌<◌, ◌+◌, ℕ, ap, List, [], ◌∷◌, ◌++◌, length, map, take, get_or, sym}
use Rattle.std.specs.Prelude.{filter}
use Rattle.std.proofs.lemmas.List.{take_more, map-append}
use Rattle.std.proofs.lemmas.List.Elements.{filter-append}
use Rattle.lrc_labels.specs.Line.{has_bytes}

-- one piece more
pub kept_more : {A : Type 0} (bytes : A → List ℕ) (pieces : List A) (i : ℕ) (d : A) → i < length pieces
    → filter has_bytes (map bytes (take (i + 1) pieces))
    ≡ filter has_bytes (map bytes (take i pieces)) ++ filter has_bytes (bytes (get_or pieces i d) ∷ [])
kept_more {A} bytes pieces i d lt =
    ap (λ (l : List A). filter has_bytes (map bytes l)) (take_more pieces i d lt)
    ∙ ap (filter has_bytes) (map-append bytes (take i pieces) (get_or pieces i d ∷ []))
    ∙ filter-append has_bytes (map bytes (take i pieces)) (bytes (get_or pieces i d) ∷ [])

pub kept_still : {A : Type 0} (bytes : A → List ℕ) (pieces : List A) (i : ℕ) (d : A) (now next : List (List ℕ)) → i < length pieces
    → now ≡ filter has_bytes (map bytes (take i pieces)) → next ≡ now ++ filter has_bytes (bytes (get_or pieces i d) ∷ [])
    → next ≡ filter has_bytes (map bytes (take (i + 1) pieces))
kept_still bytes pieces i d now next lt is more =
    more ∙ ap (λ (l : List (List ℕ)). l ++ filter has_bytes (bytes (get_or pieces i d) ∷ [])) is ∙ sym (kept_more bytes pieces i d lt)
