use Rattle.std.proofs.Common.{◌≡◌, ◌∙◌, ◌++◌, ap, length, rules}
use Rattle.lrc_text.specs.Parts.{texts_of}
use Rattle.lrc_chart_text.specs.Lines.{lines_text}
use Rattle.lrc_chart_text.specs.Sketch.{shape_of}
use Rattle.lrc_chart_text.proofs.Steps.{on_ok}
use Rattle.lrc_chart_text.proofs.Turning.{turn_is}
use Rattle.lrc_chart_text.proofs.whole.push_turn.Goals as goal

pub returns : goal.returns
returns c =
    let picture = c.args.picture.now in
    let number = c.args.number in
    let row = c.args.row.now in
    let many : c.len-columns.result ≡ length picture.columns.items = search rules in
    on_ok c.push_paragraph.result
    (λ e. e
    ∙ ap (λ l. c.args.text.now.items ++ lines_text l)
    (turn_is picture number row c.len-columns.result c.room_of.result c.shape_of-shape.result c.deref.result.now c.args.margin.now
    (texts_of c.deref-2.result.now) many (c.shape_of-shape.ensures ∙ ap (shape_of number row) c.as_slice.ensures.value)
    (c.deref.ensures.value ∙ c.in_ok-first.ensures) c.requires c.room_of.ensures.is (ap texts_of c.deref-2.ensures.value ∙ c.in_ok-phrases.ensures)))
    c.push_paragraph.ensures
