-- The lines at the numbers of the acts' statements are the lines of the acts.
use Rattle.std.proofs.Common.{◌∙◌, ap, map, sym}
use Rattle.std.specs.Prelude.{slice_index_or}
use Rattle.std.proofs.lemmas.Result.{IfOk-weaker}
use Rattle.lrc_lines.proofs.Numbering.{lines_by_numbers}
use Rattle.lrc_lines.proofs.statements.lines_of_statements.Goals as goal

pub returns-clause-lines : goal.returns-clause-lines
returns-clause-lines c =
    let lines = c.args.lines.now in
    IfOk-weaker c.lines_at.result _ _
    (λ found found_is program nodes acts long is. found_is ∙ ap (map (λ number. slice_index_or lines number 0)) is
    ∙ sym (lines_by_numbers program nodes lines acts long))
    c.lines_at.ensures
