use Rattle.std.proofs.Common.{◌∙◌, ◌≤◌, ◌++◌, List, ap, append-nil, length, subst, sym}
use Rattle.std.specs.Prelude.{◌==◌}
use Rattle.std.proofs.lemmas.List.{take_all}
use Rattle.std.proofs.lemmas.Result.{IfOk-from_err}
use Rattle.lrc_text.specs.Each.{each}
use Rattle.lrc_chart_model.specs.declared.picture.Arrow.{Arrow}
use Rattle.lrc_text.specs.Parts.{texts_of}
use Rattle.lrc_chart_text.specs.Phrases.{only_if, taken_phrase}
use Rattle.lrc_chart_text.proofs.Steps.{each_seen}
use Rattle.lrc_chart_text.proofs.phrases.push_all_taken.Goals as goal

pub loop-position-preserved : goal.loop-position-preserved
loop-position-preserved c =
    each_seen c.args.picture.now.arrows.items c.deref-arrow-items.result.now c.deref-arrow-items.ensures.value c.loop-position.position c.arrow-item.result
    c.loop-position-test.true c.arrow-item.is (λ position arrow. only_if (arrow.to == c.args.number) (taken_phrase position arrow))
    (texts_of c.args.phrases.now.items) (texts_of c.loop-position.phrases.items) (texts_of c.push_taken.new.phrases.items) c.loop-position.invariant
    c.in_ok-push_taken.ensures

pub loop-position-init : goal.loop-position-init
loop-position-init c = sym (append-nil (texts_of c.args.phrases.now.items))

pub returns : goal.returns
returns c =
    c.loop-position.invariant
    ∙ ap (λ (l : List Arrow). texts_of c.args.phrases.now.items ++ each (λ position arrow. only_if (arrow.to == c.args.number) (taken_phrase position arrow)) l)
    (take_all c.loop-position.position c.args.picture.now.arrows.items
    (subst (λ (l : List Arrow). length l ≤ c.loop-position.position) c.deref-arrow-items.ensures.value c.loop-position-test.false))

pub returns-in_err-push_taken : goal.returns-in_err-push_taken
returns-in_err-push_taken c = IfOk-from_err c.from_residual.result _ c.from_residual.ensures.0
