use Rattle.std.proofs.Common.{◌∙◌, ◌≤◌, ◌++◌, List, ap, length, subst}
use Rattle.std.specs.Prelude.{◌==◌}
use Rattle.std.proofs.lemmas.List.{take_all}
use Rattle.lrc_text.specs.Each.{each}
use Rattle.lrc_chart_model.specs.declared.picture.Arrow.{Arrow}
use Rattle.lrc_text.specs.Parts.{texts_of}
use Rattle.lrc_chart_text.specs.Phrases.{only_if, sent_phrase}
use Rattle.lrc_chart_text.proofs.Steps.{each_seen}
use Rattle.lrc_chart_text.proofs.phrases.push_all_sent.Goals as goal

pub loop-position-preserved : goal.loop-position-preserved
loop-position-preserved c =
    let arrow = c.arrow-item.result in
    let position = c.loop-position.position in
    each_seen c.args.picture.now.arrows.items c.deref-arrow-items.result.now c.deref-arrow-items.ensures.value position arrow
    c.loop-position-test.true c.arrow-item.is (λ place one. only_if (one.from == c.args.number) (sent_phrase c.args.picture.now.columns.items place one))
    (texts_of c.args.phrases.now.items) (texts_of c.loop-position.phrases.items) (texts_of c.push_sent.new.phrases.items) c.loop-position.invariant
    (c.in_ok-push_sent.ensures
    ∙ ap (λ columns. texts_of c.loop-position.phrases.items ++ only_if (arrow.from == c.args.number) (sent_phrase columns position arrow))
    c.as_slice-columns.ensures.value)

pub returns : goal.returns
returns c =
    let arrows = c.args.picture.now.arrows.items in
    c.loop-position.invariant
    ∙ ap (λ (l : List Arrow). texts_of c.args.phrases.now.items
    ++ each (λ place one. only_if (one.from == c.args.number) (sent_phrase c.args.picture.now.columns.items place one)) l)
    (take_all c.loop-position.position arrows
    (subst (λ (l : List Arrow). length l ≤ c.loop-position.position) c.deref-arrow-items.ensures.value c.loop-position-test.false))
