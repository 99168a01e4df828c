use Rattle.std.proofs.Common.{◌≡◌, ◌∙◌, ◌++◌, ℕ, List, ap₂}
use Rattle.lrc_svg.proofs.Rows.{on_ok}
use Rattle.lrc_chart_svg.specs.declared.flow.Flow.{Flow}
use Rattle.lrc_chart_svg.specs.Flow.{begun, done_flow, timed_flow}
use Rattle.lrc_chart_svg.specs.Marks.{Mark, all_marks}
use Rattle.lrc_chart_svg.specs.Shown.{phrase}
use Rattle.lrc_chart_svg.proofs.Painted.{joined}
use Rattle.lrc_chart_svg.proofs.rows.push_own_words.Goals as goal

-- words behind others, by how far these go
told : (old new : List Mark) (left top room : ℕ) (flow goes : Flow) (words are : List ℕ) → new ≡ old ++ phrase left top room flow words
    → flow ≡ goes → words ≡ are → new ≡ old ++ phrase left top room goes are
told old new left top room flow goes words are new_is flow_is words_are =
    new_is ∙ ap₂ (λ (f : Flow) (w : List ℕ). old ++ phrase left top room f w) flow_is words_are

pub returns : goal.returns
returns c =
    let sheet = c.args.sheet in
    let row = c.args.row.now in
    let start = all_marks c.args.inside.now.items in
    let one = all_marks c.push_phrase.new.inside.items in
    let two = all_marks c.push_phrase-2.new.inside.items in
    let end = all_marks c.push_phrase-3.new.inside.items in
    let first : List Mark = phrase sheet.left sheet.top sheet.room begun row.words.items in
    let second : List Mark = phrase sheet.left sheet.top sheet.room (done_flow sheet.room row) row.time.items in
    let third : List Mark = phrase sheet.left sheet.top sheet.room (timed_flow sheet.room row) row.invalid.items in
    on_ok c.push_phrase-3.result
    (λ last.
    joined start two end (first ++ second) third
    (joined start one two first second
    (told start one sheet.left sheet.top sheet.room _ _ _ _ c.in_ok-push_phrase.ensures c.begun.ensures c.as_slice.ensures.value)
    (told one two sheet.left sheet.top sheet.room _ _ _ _ c.in_ok-push_phrase-2.ensures c.done_flow-done.ensures c.as_slice-2.ensures.value))
    (told two end sheet.left sheet.top sheet.room _ _ _ _ last c.timed_flow-timed.ensures c.as_slice-3.ensures.value))
    c.push_phrase-3.ensures
