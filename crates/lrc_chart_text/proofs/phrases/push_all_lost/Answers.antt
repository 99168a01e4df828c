use Rattle.std.proofs.Common.{◌∙◌, ◌<◌, ◌≤◌, ◌++◌, List, ap, append-nil, get_or, length, subst, sym}
use Rattle.std.specs.Prelude.{◌==◌}
use Rattle.std.specs.List.{flat_map}
use Rattle.std.proofs.lemmas.List.{take_all}
use Rattle.std.proofs.lemmas.Result.{IfOk-from_err}
use Rattle.lrc_chart_model.specs.declared.picture.Lost.{Lost}
use Rattle.lrc_text.specs.Parts.{texts_of}
use Rattle.lrc_chart_text.specs.Phrases.{only_if, lost_phrase}
use Rattle.lrc_chart_text.proofs.Steps.{flat_pushed}
use Rattle.lrc_chart_text.proofs.phrases.push_all_lost.Goals as goal

pub loop-lost-init : goal.loop-lost-init
loop-lost-init c = sym (append-nil (texts_of c.args.phrases.now.items))

pub loop-lost-preserved : goal.loop-lost-preserved
loop-lost-preserved c =
    let lost = c.lost-item.result in
    let i = c.loop-lost.lost-index in
    let same = c.deref-lost-items.ensures.value in
    flat_pushed c.args.picture.now.lost.items i lost (subst (λ (l : List Lost). i < length l) same c.loop-lost-test.true)
    (c.lost-item.is ∙ ap (λ l. get_or l i lost) same)
    (λ one. only_if (one.from == c.args.number) (lost_phrase c.args.picture.now.columns.items one))
    (texts_of c.args.phrases.now.items) (texts_of c.loop-lost.phrases.items) (texts_of c.push_lost.new.phrases.items) c.loop-lost.invariant
    (c.in_ok-push_lost.ensures
    ∙ ap (λ columns. texts_of c.loop-lost.phrases.items ++ only_if (lost.from == c.args.number) (lost_phrase columns lost))
    c.as_slice-columns.ensures.value)

pub returns : goal.returns
returns c =
    c.loop-lost.invariant
    ∙ ap (λ (l : List Lost). texts_of c.args.phrases.now.items
    ++ flat_map (λ one. only_if (one.from == c.args.number) (lost_phrase c.args.picture.now.columns.items one)) l)
    (take_all c.loop-lost.lost-index c.args.picture.now.lost.items
    (subst (λ (l : List Lost). length l ≤ c.loop-lost.lost-index) c.deref-lost-items.ensures.value c.loop-lost-test.false))

pub returns-in_err-push_lost : goal.returns-in_err-push_lost
returns-in_err-push_lost c = IfOk-from_err c.from_residual.result _ c.from_residual.ensures.0
