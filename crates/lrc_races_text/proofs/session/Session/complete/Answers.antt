-- What was kept, and what is new.
use Rattle.lrc_races_text.proofs.SessionLemmas.{kept_completed, kept_bad, kept_ill, too_long_bad, too_long_never}
use Rattle.lrc_races_text.proofs.session.Session.complete.Goals as goal

pub returns-in-Ok-clause-ok : goal.returns-in-Ok-clause-ok
returns-in-Ok-clause-ok c = kept_completed c.args.self.now _ _ c.args.part.now _ _ _ c.in-Ok.ensures.ok c.take_rest.ensures.ok

pub returns-in-Ok-clause-bad : goal.returns-in-Ok-clause-bad
returns-in-Ok-clause-bad c = kept_bad c.args.self.now _ c.args.part.now _ c.in-Ok.ensures.ok c.take_rest.ensures.bad

pub returns-in-Err-clause-bad : goal.returns-in-Err-clause-bad
returns-in-Err-clause-bad c = too_long_bad c.args.self.now c.args.part.now _ c.in-Err.ensures.bad

pub returns-in-Ok-clause-ill : goal.returns-in-Ok-clause-ill
returns-in-Ok-clause-ill c = kept_ill c.args.self.now _ c.args.part.now _ c.in-Ok.ensures.ok c.take_rest.ensures.ill

pub returns-in-Err-clause-ill : goal.returns-in-Err-clause-ill
returns-in-Err-clause-ill c = too_long_never c.args.self.now c.args.part.now _ c.in-Err.ensures.ill
