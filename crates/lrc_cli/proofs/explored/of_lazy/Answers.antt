use Rattle.std.proofs.Common.{IfErr, IfOk, Option, Some, subst, sym}
use Rattle.std.proofs.lemmas.Result.{IfErr-weaker}
use Rattle.lrc_explain_waits.specs.Traps.{wording_of}
use Rattle.lrc_cli_args.specs.declared.choice.OutcomeNumber.{OutcomeNumber}
use Rattle.lrc_cli.specs.Answer.{IsAnswered, IsLazyAnswer, IsLazyFault}
use Rattle.lrc_cli.specs.Met.{IsOrdersMet}
use Rattle.lrc_cli.proofs.AnswerLemmas.{printed_err, printed_ok}
use Rattle.lrc_cli.proofs.explored.of_lazy.Goals as goal

pub returns-in-Some-clause-ok : goal.returns-in-Some-clause-ok
returns-in-Some-clause-ok c =
    let e = c.args.exploring.now in
    let wording = wording_of c.args.wording.now in
    let program = c.args.program.now in
    let lines = c.args.lines.now in
    subst (λ (o : Option OutcomeNumber). IfOk c.printed.result (IsAnswered (IsLazyAnswer o e.outcomes e wording program lines) (IsOrdersMet o e.outcomes e wording program lines))) (sym c.in-Some.is)
    (printed_ok (IsLazyAnswer (Some c.in-Some.outcome) e.outcomes e wording program lines) (IsOrdersMet (Some c.in-Some.outcome) e.outcomes e wording program lines)
    c.one_lazy_run.result c.printed.result c.printed.ensures c.one_lazy_run.ensures.ok)

pub returns-in-Some-clause-err : goal.returns-in-Some-clause-err
returns-in-Some-clause-err c =
    let e = c.args.exploring.now in
    let program = c.args.program.now in
    subst (λ (o : Option OutcomeNumber). IfErr c.printed.result (IsLazyFault o e.outcomes e program)) (sym c.in-Some.is)
    (printed_err (IsLazyFault (Some c.in-Some.outcome) e.outcomes e program) c.one_lazy_run.result c.printed.result c.printed.ensures
    (IfErr-weaker c.one_lazy_run.result _ _ (λ fault has. has) c.one_lazy_run.ensures.err))
