use Rattle.std.proofs.Common.{IfErr, IfOk, Option, Some, subst, sym}
use Rattle.std.proofs.lemmas.Result.{IfErr-weaker}
use Rattle.lrc_cli_args.specs.declared.choice.OutcomeNumber.{OutcomeNumber}
use Rattle.lrc_cli.specs.Answer.{IsAnswered, IsEventsFault}
use Rattle.lrc_cli.specs.Events.{IsEventsAnswer}
use Rattle.lrc_cli.specs.Met.{IsEventsMet}
use Rattle.lrc_cli.proofs.AnswerLemmas.{printed_err, printed_ok}
use Rattle.lrc_cli.proofs.events.events_of.Goals as goal

pub returns-in-Some-clause-ok : goal.returns-in-Some-clause-ok
returns-in-Some-clause-ok c =
    let e = c.args.exploring.now in
    let program = c.args.program.now in
    subst (λ (o : Option OutcomeNumber). IfOk c.printed.result (IsAnswered (IsEventsAnswer o e c.args.tell program) (IsEventsMet o e c.args.tell program))) (sym c.in-Some.is)
    (printed_ok (IsEventsAnswer (Some c.in-Some.outcome) e c.args.tell program) (IsEventsMet (Some c.in-Some.outcome) e c.args.tell program)
    c.events_in_memory.result c.printed.result c.printed.ensures c.events_in_memory.ensures.ok)

pub returns-in-Some-clause-err : goal.returns-in-Some-clause-err
returns-in-Some-clause-err c =
    let e = c.args.exploring.now in
    let program = c.args.program.now in
    subst (λ (o : Option OutcomeNumber). IfErr c.printed.result (IsEventsFault o e program)) (sym c.in-Some.is)
    (printed_err (IsEventsFault (Some c.in-Some.outcome) e program) c.events_in_memory.result c.printed.result c.printed.ensures
    (IfErr-weaker c.events_in_memory.result _ _ (λ fault has. has) c.events_in_memory.ensures.err))
