-- Rows of turns, with one turn more.
use Rattle.std.proofs.Common.{◌≡◌, ◌∙◌, ◌+◌, ◌<◌, ◌++◌, ◌∷◌, [], ℕ, List, ap, ap₂, sym, get_or, length, take}
use Rattle.std.specs.Prelude.{Bool, cond, if◌then◌else◌}
use Rattle.lrc_turns_text.specs.Turns.{Made}
use Rattle.lrc_turns_text.specs.TurnsText.{acts_in}
use Rattle.lrc_text.specs.Each.{each}
use Rattle.lrc_text.proofs.Each.{each_more}
use Rattle.lrc_chart_rows.specs.declared.row.Row.{Row}
use Rattle.lrc_chart_rows.specs.Rows.{has_act, row_at, row_of, shows}

abbrev rows_for : List Made → ℕ → Made → List Row
rows_for turns position turn = if shows turn then row_of turns position turn ∷ [] else []

pub rows_more : (turns : List Made) (k : ℕ) (turn : Made) (old new : List Row) (row : Row) (acts : ℕ) (has shown : Bool) → k < length turns
    → turn ≡ get_or turns k turn → has ≡ has_act turn → shown ≡ shows turn → row ≡ row_at k has acts → acts ≡ acts_in (take k turns)
    → old ≡ each (λ position t. if shows t then row_of turns position t ∷ [] else []) (take k turns)
    → new ≡ old ++ (if shown then row ∷ [] else [])
    → new ≡ each (λ position t. if shows t then row_of turns position t ∷ [] else []) (take (k + 1) turns)
rows_more turns k turn old new row acts has shown within turn_is has_is shown_is row_is acts_is old_is new_is =
    let same_row : row ≡ row_of turns k turn = row_is ∙ ap₂ (row_at k) has_is acts_is in
    let here : (if shown then row ∷ [] else []) ≡ rows_for turns k turn =
    ap₂ (λ (s : Bool) (r : Row). cond s (r ∷ []) []) shown_is same_row in
    let before = each (rows_for turns) (take k turns) in
    new_is ∙ ap₂ (λ (a b : List Row). a ++ b) old_is here ∙ ap (λ (t : Made). before ++ rows_for turns k t) turn_is
    ∙ sym (each_more (rows_for turns) turns k turn within)
