-- Lists that grow by what stands for one item more.
use Rattle.std.proofs.Common.{◌≡◌, ◌∙◌, ◌<◌, ◌+◌, ℕ, ap, sym, subst, List, [], ◌∷◌, ◌++◌, length, map, take, get_or, append_assoc, append-nil, cond}
use Rattle.std.specs.Prelude.{OnOk, Result, is_ok}
use Rattle.lrc_text.proofs.Pushed.{and_then, slice_ok}
use Rattle.std.specs.List.{flat_map}
use Rattle.std.proofs.lemmas.List.{get_or-map, length-map, take_more}
use Rattle.std.proofs.lemmas.List.Concat.{flat_map-append}

flat_more : {X Y : Type 0} (of : X → List Y) (items : List X) (i : ℕ) (d : X) → i < length items
    → flat_map of (take (i + 1) items) ≡ flat_map of (take i items) ++ of (get_or items i d)
flat_more of items i d lt =
    ap (flat_map of) (take_more items i d lt)
    ∙ flat_map-append of (take i items) (get_or items i d ∷ [])
    ∙ ap (λ l. flat_map of (take i items) ++ l) (append-nil (of (get_or items i d)))

pub grown_more : {X Y : Type 0} (of : X → List Y) (items : List X) (i : ℕ) (d : X) (old now next : List Y) → i < length items
    → now ≡ old ++ flat_map of (take i items) → next ≡ now ++ of (get_or items i d) → next ≡ old ++ flat_map of (take (i + 1) items)
grown_more of items i d old now next lt is more =
    more ∙ ap (λ l. l ++ of (get_or items i d)) is
    ∙ append_assoc old (flat_map of (take i items)) (of (get_or items i d))
    ∙ ap (λ l. old ++ l) (sym (flat_more of items i d lt))

pub seen_more : {A Y : Type 0} (of : List ℕ → List Y) (bytes : A → List ℕ) (items : List A) (i : ℕ) (d : A) (old now next : List Y) → i < length items
    → now ≡ old ++ flat_map of (take i (map bytes items)) → next ≡ now ++ of (bytes (get_or items i d))
    → next ≡ old ++ flat_map of (take (i + 1) (map bytes items))
seen_more {A} {Y} of bytes items i d old now next lt is more =
    grown_more of (map bytes items) i [] old now next (subst (λ n. i < n) (sym (length-map items bytes)) lt) is
    (subst (λ (l : List ℕ). next ≡ now ++ of l) (sym (get_or-map bytes items i d [] lt)) more)

-- a line that begins with a front, goes on with what is joined of phrases and ends with a last part
pub phrased : {A R E : Type 0} (result : Result R E) (bytes : A → List ℕ) (join : List (List ℕ) → List ℕ) (items kept : List A) (phrases : List (List ℕ))
    (old front now between next last : List ℕ) → items ≡ kept → map bytes kept ≡ phrases → now ≡ old ++ front → between ≡ now ++ join (map bytes items)
    → next ≡ cond (is_ok result) (between ++ last) between → OnOk result (next ≡ old ++ ((front ++ join phrases) ++ last))
phrased {A} result bytes join items kept phrases old front now between next last same seen is more is_next =
    slice_ok old (front ++ join phrases) between next
    (and_then old front now between is (join phrases) (more ∙ ap (λ (l : List (List ℕ)). now ++ join l) (ap (map bytes) same ∙ seen)))
    result last is_next

-- a line of three parts
pub spelled : {R E : Type 0} (result : Result R E) (old front now token between last next : List ℕ) → now ≡ old ++ front → between ≡ now ++ token
    → next ≡ cond (is_ok result) (between ++ last) between → OnOk result (next ≡ old ++ ((front ++ token) ++ last))
spelled result old front now token between last next is more is_next =
    slice_ok old (front ++ token) between next (and_then old front now between is token more) result last is_next
