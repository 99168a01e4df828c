-- The acts of turns, with one turn more.
use Rattle.std.proofs.Common.{◌≡◌, ◌∙◌, ◌+◌, ◌<◌, ℕ, List, ap, get_or, length, take}
use Rattle.std.specs.Prelude.{cond, is_some}
use Rattle.std.proofs.lemmas.List.{take_more}
use Rattle.lrc_turns_text.specs.Turns.{Made}
use Rattle.lrc_turns_text.specs.TurnsText.{acts_in}
use Rattle.lrc_chart_rows.specs.Rows.{has_act}
use Rattle.lrc_chart_rows.proofs.Counting.{count_push}

pub acts_more : (turns : List Made) (k : ℕ) (d : Made) → k < length turns
    → acts_in (take (k + 1) turns) ≡ acts_in (take k turns) + cond (has_act (get_or turns k d)) 1 0
acts_more turns k d within =
    ap acts_in (take_more turns k d within) ∙ count_push (λ (t : Made). is_some t.entry.turn.act) (take k turns) (get_or turns k d)
