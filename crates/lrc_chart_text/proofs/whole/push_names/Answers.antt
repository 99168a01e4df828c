use Rattle.std.proofs.Common.{◌∙◌, ◌++◌, ap, append-nil, length, refl, sym}
use Rattle.std.proofs.lemmas.List.{take_all}
use Rattle.std.proofs.lemmas.Result.{IfOk-from_err}
use Rattle.lrc_text.specs.Each.{each}
use Rattle.lrc_chart_text.specs.Lines.{lines_text}
use Rattle.lrc_chart_text.specs.Sketch.{name_lines}
use Rattle.lrc_chart_text.proofs.Steps.{each_lines}
use Rattle.lrc_chart_text.proofs.whole.push_names.Goals as goal

pub loop-column-preserved : goal.loop-column-preserved
loop-column-preserved c =
    each_lines c.args.columns.now c.args.columns.now refl c.loop-column.column c.index-columns-column.result c.loop-column-test.true
    c.index-columns-column.is (name_lines (length c.args.columns.now)) c.args.text.now.items c.loop-column.text.items c.push_name.new.text.items
    c.loop-column.invariant c.in_ok-push_name.ensures

pub loop-column-init : goal.loop-column-init
loop-column-init c = sym (append-nil c.args.text.now.items)

pub returns : goal.returns
returns c =
    let columns = c.args.columns.now in
    c.loop-column.invariant
    ∙ ap (λ l. c.args.text.now.items ++ lines_text (each (name_lines (length columns)) l)) (take_all c.loop-column.column columns c.loop-column-test.false)

pub returns-in_err-push_name : goal.returns-in_err-push_name
returns-in_err-push_name c = IfOk-from_err c.from_residual.result _ c.from_residual.ensures.0
