use Rattle.std.proofs.Common.{ℕ, List, inl, inr, subst}
use Rattle.std.proofs.lemmas.Result.{IfErr-weaker, IfOk-weaker}
use Rattle.lrc_cli_answer.specs.FaultLine.{fault_of_text}
use Rattle.lrc_cli_answer.specs.Texts.{IsTextFault, IsTextOf}
use Rattle.lrc_cli_answer.proofs.FaultLemmas.{fault_up, text_fault}
use Rattle.lrc_cli.proofs.explored.explored_as_read.Goals as goal

pub returns-in_err-program-clause-err : goal.returns-in_err-program-clause-err
returns-in_err-program-clause-err c =
    fault_up c.from_residual.result _ _ c.from_residual.ensures.1
    (inl (subst (λ (t : List ℕ). IsTextFault t (fault_of_text c.in_err-program.field-0.0)) c.core.ensures (text_fault c.core.result.now c.in_err-program.field-0.0 c.in_err-program.ensures.fault)))

pub answered-requires : goal.answered-requires
answered-requires c = subst (λ (t : List ℕ). IsTextOf t c.in_ok-program.program) c.core.ensures c.in_ok-program.ensures.program

pub returns-clause-ok : goal.returns-clause-ok
returns-clause-ok c =
    IfOk-weaker c.answered.result _ _ (λ printout told. (
      c.in_ok-program.program,
      subst (λ (t : List ℕ). IsTextOf t c.in_ok-program.program) c.core.ensures c.in_ok-program.ensures.program,
      told,
    )) c.answered.ensures.ok

pub returns-clause-err : goal.returns-clause-err
returns-clause-err c =
    IfErr-weaker c.answered.result _ _ (λ fault is. inr (
      c.in_ok-program.program,
      subst (λ (t : List ℕ). IsTextOf t c.in_ok-program.program) c.core.ensures c.in_ok-program.ensures.program,
      is,
    )) c.answered.ensures.err
