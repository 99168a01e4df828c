use Rattle.std.proofs.Common.{◌∙◌, ◌≤◌, ◌++◌, List, ap, append-nil, length, subst, sym}
use Rattle.std.proofs.lemmas.List.{take_all}
use Rattle.std.proofs.lemmas.Result.{IfOk-from_err}
use Rattle.lrc_text.specs.Each.{each}
use Rattle.lrc_chart_model.specs.declared.picture.Row.{Row}
use Rattle.lrc_chart_text.specs.Lines.{lines_text}
use Rattle.lrc_chart_text.specs.Sketch.{row_lines}
use Rattle.lrc_chart_text.proofs.Steps.{each_lines}
use Rattle.lrc_chart_text.proofs.whole.push_rows.Goals as goal

pub loop-number-preserved : goal.loop-number-preserved
loop-number-preserved c =
    each_lines c.args.picture.now.rows.items c.deref-row-items.result.now c.deref-row-items.ensures.value c.loop-number.number c.row-item.result
    c.loop-number-test.true c.row-item.is (row_lines c.args.picture.now) c.args.text.now.items c.loop-number.text.items
    c.push_row.new.text.items c.loop-number.invariant c.in_ok-push_row.ensures

pub loop-number-init : goal.loop-number-init
loop-number-init c = sym (append-nil c.args.text.now.items)

pub returns : goal.returns
returns c =
    let picture = c.args.picture.now in
    c.loop-number.invariant
    ∙ ap (λ (l : List Row). c.args.text.now.items ++ lines_text (each (row_lines picture) l))
    (take_all c.loop-number.number picture.rows.items
    (subst (λ (l : List Row). length l ≤ c.loop-number.number) c.deref-row-items.ensures.value c.loop-number-test.false))

pub returns-in_err-push_row : goal.returns-in_err-push_row
returns-in_err-push_row c = IfOk-from_err c.from_residual-in_err-push_row.result _ c.from_residual-in_err-push_row.ensures.0
