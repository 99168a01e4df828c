-- The parts are put together.
use Rattle.std.proofs.Common.{◌≡◌, ◌∙◌, ◌++◌, List, ℕ, ap, append_assoc}
use Rattle.std.specs.Prelude.{codes, decimal}
use Rattle.lrc_races_notes.proofs.text.push_blank_note.Goals as goal

joined : (old word digits tail mid new : List ℕ) → mid ≡ old ++ word ++ digits → new ≡ mid ++ tail → new ≡ old ++ (word ++ digits ++ tail)
joined old word digits tail mid new first second =
    second ∙ ap (λ t. t ++ tail) (first ∙ append_assoc old word digits) ∙ append_assoc old (word ++ digits) tail

pub returns : goal.returns
returns c =
    joined c.args.text.now.items (codes "treadmarks: trace line ") (decimal c.args.line)
    (codes ": a blank at the end of a line is part of a location\n") _ _ c.in_ok-push_number.ensures.ok c.in_ok-extend_from_slice.ensures.items
