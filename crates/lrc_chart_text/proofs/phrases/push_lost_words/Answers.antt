use Rattle.std.proofs.Common.{◌∙◌, ◌++◌, ap}
use Rattle.std.specs.Prelude.{codes}
use Rattle.lrc_chart_text.specs.Phrases.{name_of_column}
use Rattle.lrc_chart_text.proofs.Steps.{four_added, on_ok}
use Rattle.lrc_chart_text.proofs.phrases.push_lost_words.Goals as goal

pub returns : goal.returns
returns c =
    let lost = c.args.lost.now in
    let first = c.extend_from_slice.new.self.items in
    let second = c.extend_from_slice-2.new.self.items in
    on_ok c.push_never.result
    (four_added c.args.text.now.items (codes ">x ") lost.label.items (codes " to ") (name_of_column c.args.columns.now lost.receiver) (codes ", never taken")
    first second c.push_receiver.new.text.items c.push_never.new.text.items c.in_ok-extend_from_slice.ensures.items
    (c.in_ok-extend_from_slice-2.ensures.items ∙ ap (λ l. first ++ l) c.as_slice.ensures.value) c.in_ok-push_receiver.ensures)
    c.push_never.ensures
