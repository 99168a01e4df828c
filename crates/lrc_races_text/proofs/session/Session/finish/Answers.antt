-- The last line, and what is told at the end.
use Rattle.lrc_races_text.proofs.SessionLemmas.{ended_well, failed_line, failed_memory}
use Rattle.lrc_races_text.proofs.session.Session.finish.Goals as goal

pub returns-in-Err-clause-bad : goal.returns-in-Err-clause-bad
returns-in-Err-clause-bad c = failed_line c.args.self.now _ _ _ c.in-Err.ensures.kept c.in-Err.ensures.bad c.in-Err.ensures.ill

pub returns-in-Ok-end-clause-ok : goal.returns-in-Ok-end-clause-ok
returns-in-Ok-end-clause-ok c = ended_well c.args.self.now _ _ _ _ _ c.in-Ok.ensures.ok c.in-Ok-end.ensures.ok

pub returns-in-Err-end-clause-bad : goal.returns-in-Err-end-clause-bad
returns-in-Err-end-clause-bad c = failed_memory c.args.self.now _ _ _ _ c.in-Ok.ensures.ok c.in-Err-end.ensures.err
