-- Turns that are told one after another.
use Rattle.std.proofs.Common.{◌≡◌, ◌∙◌, ◌+◌, ◌<◌, ◌++◌, ◌∷◌, [], ℕ, List, ap}
use Rattle.std.proofs.Common.{sym, append_assoc, append-nil, fold, get_or, length, refl, take}
use Rattle.std.proofs.lemmas.List.{take_more}
use Rattle.lrc_protocol.specs.Run.{EntryRecord}
use Rattle.lrc_turns_text.specs.Turns.{Made, next, turns_told}
use Rattle.lrc_turns_text.specs.TurnsText.{text_behind, texts_behind}

-- turns behind others are told behind those
pub texts_append : (lines : List ℕ) (before first second : List Made)
    → texts_behind lines before (first ++ second) ≡ texts_behind lines before first ++ texts_behind lines (before ++ first) second
texts_append lines before [] second = ap (λ b. texts_behind lines b second) (sym (append-nil before))
texts_append lines before (turn ∷ first) second =
    let here = text_behind lines before turn in
    ap (λ l. here ++ l) (texts_append lines (before ++ turn ∷ []) first second
    ∙ ap (λ b. texts_behind lines (before ++ turn ∷ []) first ++ texts_behind lines b second) (append_assoc before (turn ∷ []) first))
    ∙ sym (append_assoc here (texts_behind lines (before ++ turn ∷ []) first) (texts_behind lines (before ++ turn ∷ first) second))

fold_append : {A B : Type 0} (f : B → A → B) (from : B) (a b : List A) → fold f from (a ++ b) ≡ fold f (fold f from a) b
fold_append f from [] b = refl
fold_append f from (x ∷ a) b = fold_append f (f from x) a b

-- one node more
pub turns_next : (logs : List (List EntryRecord)) (order : List ℕ) (k d : ℕ) → k < length order
    → turns_told logs (take (k + 1) order) ≡ turns_told logs (take k order) ++ next logs (turns_told logs (take k order)) (get_or order k d)
turns_next logs order k d within =
    ap (turns_told logs) (take_more order k d within)
    ∙ fold_append (λ turns node. turns ++ next logs turns node) [] (take k order) (get_or order k d ∷ [])
