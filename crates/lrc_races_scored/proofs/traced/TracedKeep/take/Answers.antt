-- A line says nothing, or an event.
use Rattle.std.proofs.Common.{refl}
use Rattle.lrc_races_text.proofs.SessionLemmas.{bad_fault}
use Rattle.lrc_races_scored.proofs.TracedLemmas.{traced_event, traced_nothing}
use Rattle.lrc_races_scored.proofs.traced.TracedKeep.take.Goals as goal

pub returns-in-Nothing-clause-ok : goal.returns-in-Nothing-clause-ok
returns-in-Nothing-clause-ok c = traced_nothing c.args.form c.args.line.now c.args.number c.args.self.now c.in-Nothing.ensures

pub returns-in-Event-clause-ok : goal.returns-in-Event-clause-ok
returns-in-Event-clause-ok c = traced_event c.args.form c.args.line.now c.args.number _ c.args.self.now _ _ c.in-Event.ensures c.keep.ensures.ok

pub returns-in-Bad-clause-bad : goal.returns-in-Bad-clause-bad
returns-in-Bad-clause-bad c = record {
  fails = bad_fault c.args.form c.args.line.now c.args.number _ _ c.in-Bad.ensures c.cause_in.ensures c.bad_event.ensures;
  same = λ other why e. refl;
}
