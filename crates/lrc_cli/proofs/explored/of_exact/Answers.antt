use Rattle.std.proofs.Common.{Bool, IfErr, IfOk, None, Option, Some, subst, sym, true}
use Rattle.std.proofs.lemmas.Result.{IfErr-weaker}
use Rattle.lrc_explain_waits.specs.Traps.{wording_of}
use Rattle.lrc_cli_args.specs.declared.choice.OutcomeNumber.{OutcomeNumber}
use Rattle.lrc_cli.specs.Answer.{IsAnswered, IsExactAnswer, IsExactFault}
use Rattle.lrc_cli.specs.Met.{IsOrdersMet}
use Rattle.lrc_cli.proofs.AnswerLemmas.{printed_err, printed_ok}
use Rattle.lrc_cli.proofs.explored.of_exact.Goals as goal

pub returns-in-Some-clause-ok : goal.returns-in-Some-clause-ok
returns-in-Some-clause-ok c =
    let e = c.args.exploring.now in
    let wording = wording_of c.args.wording.now in
    let program = c.args.program.now in
    let lines = c.args.lines.now in
    subst (λ (o : Option OutcomeNumber). IfOk c.printed.result (IsAnswered (IsExactAnswer o e.outcomes c.args.options e wording program lines) (IsOrdersMet o e.outcomes e wording program lines))) (sym c.in-Some.is)
    (printed_ok (IsExactAnswer (Some c.in-Some.outcome) e.outcomes c.args.options e wording program lines) (IsOrdersMet (Some c.in-Some.outcome) e.outcomes e wording program lines)
    c.one_exact_run.result c.printed.result c.printed.ensures c.one_exact_run.ensures.ok)

pub returns-in-Some-clause-err : goal.returns-in-Some-clause-err
returns-in-Some-clause-err c =
    let e = c.args.exploring.now in
    let program = c.args.program.now in
    subst (λ (o : Option OutcomeNumber). IfErr c.printed.result (IsExactFault o e.outcomes c.args.options e program)) (sym c.in-Some.is)
    (printed_err (IsExactFault (Some c.in-Some.outcome) e.outcomes c.args.options e program) c.one_exact_run.result c.printed.result c.printed.ensures
    (IfErr-weaker c.one_exact_run.result _ _ (λ fault has. has) c.one_exact_run.ensures.err))

pub returns-in-None-clause-ok : goal.returns-in-None-clause-ok
returns-in-None-clause-ok c =
    let e = c.args.exploring.now in
    let wording = wording_of c.args.wording.now in
    let program = c.args.program.now in
    let lines = c.args.lines.now in
    let told = c.printed-in-None.result in
    subst
    (λ (o : Option OutcomeNumber). IfOk told (IsAnswered (IsExactAnswer o e.outcomes c.args.options e wording program lines) (IsOrdersMet o e.outcomes e wording program lines)))
    (sym c.in-None.is)
    (subst
    (λ (b : Bool). IfOk told (IsAnswered (IsExactAnswer None b c.args.options e wording program lines) (IsOrdersMet None b e wording program lines)))
    (sym c.if-exploring.true)
    (printed_ok (IsExactAnswer None true c.args.options e wording program lines) (IsOrdersMet None true e wording program lines)
    c.all_exact_runs.result told c.printed-in-None.ensures c.all_exact_runs.ensures.ok))
