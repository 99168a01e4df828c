use Rattle.std.proofs.Common.{subst, sym}
use Rattle.std.proofs.lemmas.Result.{IfOk-weaker}
use Rattle.lrc_source.specs.Telling.{AreLines}
use Rattle.lrc_source.proofs.Lines.{are_counted}
use Rattle.lrc_cli_runs.proofs.trace.lines_kept.Goals as goal

pub returns-clause-lines : goal.returns-clause-lines
returns-clause-lines c =
    let source = c.args.source.now in
    let are : AreLines source.text source.program c.lines.result.now =
    subst (AreLines source.text source.program) (sym c.lines.ensures.lines) c.lines.ensures.text in
    IfOk-weaker c.lines_of_statements.result _ _
    (λ found told nodes acts kept.
    (c.lines.result.now, are, told source.program nodes acts (are_counted source.text source.program c.lines.result.now are) kept))
    c.lines_of_statements.ensures.lines
