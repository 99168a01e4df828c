use Rattle.std.proofs.Common.{◌∙◌, ◌++◌, ap, List, ℕ}
use Rattle.lrc_why_text.specs.Answers.{act_line, reasons_text}
use Rattle.lrc_why_text.proofs.whole.reasons_part.Goals as goal

pub returns : goal.returns
returns c =
    let shown = c.args.shown in
    let line = act_line shown c.args.position in
    let private = c.args.private.now in
    let rest = reasons_text shown c.args.size c.args.position c.in_ok-told.told in
    record {
      reasons = c.in_ok-told.told;
      are = c.in_ok-told.ensures;
      whole = c.in_ok-push_reasons.ensures ∙ ap (λ (l : List ℕ). l ++ rest) (c.in_ok-extend_from_slice.ensures.items
          ∙ ap (λ (l : List ℕ). l ++ private) (c.in_ok-push_act_line.ensures ∙ ap (λ (l : List ℕ). l ++ line) c.new-text.ensures.items));
    }
