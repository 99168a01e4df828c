-- A line says nothing, or an event.
use Rattle.lrc_races_text.proofs.SessionLemmas.{bad_fault, bad_halt, bad_never_ill, event_ill, event_never_bad, fault_never_ill, taken_none, taken_one}
use Rattle.lrc_races_text.proofs.session.take_line.Goals as goal

pub returns-in-Nothing-clause-ok : goal.returns-in-Nothing-clause-ok
returns-in-Nothing-clause-ok c = taken_none c.args.form c.args.asked c.args.line.now c.args.number c.args.judged.now c.args.out.now.items c.in-Nothing.ensures

pub returns-in-Event-clause-ok : goal.returns-in-Event-clause-ok
returns-in-Event-clause-ok c = taken_one c.args.form c.args.asked c.args.line.now c.args.number _ c.args.judged.now _ _ _ _ c.in-Event.ensures c.take.ensures.ok

pub returns-in-Bad-clause-bad : goal.returns-in-Bad-clause-bad
returns-in-Bad-clause-bad c = bad_halt c.args.form c.args.line.now c.args.number _ _ c.halt_of.ensures
    (bad_fault c.args.form c.args.line.now c.args.number _ _ c.in-Bad.ensures c.cause_in.ensures c.bad_event.ensures)

pub returns-in-Bad-clause-ill : goal.returns-in-Bad-clause-ill
returns-in-Bad-clause-ill c = bad_never_ill c.args.form c.args.asked c.args.line.now c.args.number c.args.judged.now _ (fault_never_ill _ _ c.halt_of.ensures)

pub returns-in-Event-clause-bad : goal.returns-in-Event-clause-bad
returns-in-Event-clause-bad c = event_never_bad c.args.form c.args.line.now c.args.number _ c.take.ensures.bad

pub returns-in-Event-clause-ill : goal.returns-in-Event-clause-ill
returns-in-Event-clause-ill c = event_ill c.args.form c.args.asked c.args.line.now c.args.number _ c.args.judged.now _ c.in-Event.ensures c.take.ensures.ill
