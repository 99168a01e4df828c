use Rattle.std.proofs.Common.{length, subst}
use Rattle.lrc_why_run.specs.Answers.{RefusesRun}
use Rattle.lrc_why_text.specs.declared.asked.Asked.{Asked}
use Rattle.lrc_cli_answer.proofs.FaultLemmas.{fault_up}
use Rattle.lrc_cli_runs.proofs.ShowingLemmas.{untold_fault}
use Rattle.lrc_cli_runs.proofs.reasoned.reasons_of_run.Goals as goal

pub returns-in_err-parts-clause-err : goal.returns-in_err-parts-clause-err
returns-in_err-parts-clause-err c =
    let count = length c.args.acts.now in
    fault_up c.from_residual.result _ _ c.from_residual.ensures.1
    (untold_fault c.args.asking.now count c.in_err-parts.field-0.0
    (subst (λ (asked : Asked). RefusesRun asked count c.in_err-parts.field-0.0) c.asked_of-asked.ensures.value c.in_err-parts.ensures.err))
