use Rattle.std.proofs.Common.{IfErr, IfOk, Option, Some, subst, sym}
use Rattle.std.proofs.lemmas.Result.{IfErr-weaker}
use Rattle.lrc_explain_waits.specs.Traps.{wording_of}
use Rattle.lrc_cli_args.specs.declared.choice.OutcomeNumber.{OutcomeNumber}
use Rattle.lrc_cli.specs.Answer.{IsAnswered, IsFlatAnswer, IsFlatFault}
use Rattle.lrc_cli.specs.Met.{IsFlatMet}
use Rattle.lrc_cli.proofs.AnswerLemmas.{printed_err, printed_ok}
use Rattle.lrc_cli.proofs.explored.of_flat.Goals as goal

pub returns-in-Some-clause-ok : goal.returns-in-Some-clause-ok
returns-in-Some-clause-ok c =
    let e = c.args.exploring.now in
    let wording = wording_of c.args.wording.now in
    let program = c.args.program.now in
    let lines = c.args.lines.now in
    subst (λ (o : Option OutcomeNumber). IfOk c.printed.result (IsAnswered (IsFlatAnswer o e.ends e.ignores_races e wording program lines) (IsFlatMet o e.ends e.ignores_races e wording program lines))) (sym c.in-Some.is)
    (printed_ok (IsFlatAnswer (Some c.in-Some.outcome) e.ends e.ignores_races e wording program lines) (IsFlatMet (Some c.in-Some.outcome) e.ends e.ignores_races e wording program lines)
    c.one_outcome.result c.printed.result c.printed.ensures c.one_outcome.ensures.ok)

pub returns-in-Some-clause-err : goal.returns-in-Some-clause-err
returns-in-Some-clause-err c =
    let e = c.args.exploring.now in
    let program = c.args.program.now in
    subst (λ (o : Option OutcomeNumber). IfErr c.printed.result (IsFlatFault o e.ends e.ignores_races e program)) (sym c.in-Some.is)
    (printed_err (IsFlatFault (Some c.in-Some.outcome) e.ends e.ignores_races e program) c.one_outcome.result c.printed.result c.printed.ensures
    (IfErr-weaker c.one_outcome.result _ _ (λ fault has. has) c.one_outcome.ensures.err))
