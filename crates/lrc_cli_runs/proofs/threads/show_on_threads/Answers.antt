use Rattle.std.proofs.Common.{IfErr, IfOk, None, inl, subst}
use Rattle.lrc_source.specs.Telling.{ReadText}
use Rattle.lrc_text.specs.Parts.{whole_text}
use Rattle.lrc_cli_answer.proofs.FaultLemmas.{fault_up, text_fault}
use Rattle.lrc_cli_runs.specs.Showing.{RefusesRun, ShowsRun}
use Rattle.lrc_cli_runs.proofs.threads.show_on_threads.Goals as goal

pub returns-in_err-read-clause-err : goal.returns-in_err-read-clause-err
returns-in_err-read-clause-err g c =
    fault_up c.from_residual.result _ _ c.from_residual.ensures.1
    (inl (text_fault c.args.text.now.core c.in_err-read.field-0.0 c.in_err-read.ensures.fault))

pub returns-clause-ok : goal.returns-clause-ok
returns-clause-ok g c =
    subst (λ (text : ReadText). IfOk c.answered_on_threads.result
    (λ printout. ShowsRun c.args.choice.now c.args.shape text None (whole_text printout.parts.items) printout.status)) c.in_ok-read.ensures.source.text_is
    c.answered_on_threads.ensures.ok

pub returns-clause-err : goal.returns-clause-err
returns-clause-err g c =
    subst (λ (text : ReadText). IfErr c.answered_on_threads.result (RefusesRun c.args.choice.now c.args.shape text None)) c.in_ok-read.ensures.source.text_is
    c.answered_on_threads.ensures.err
