-- The line is too long.
use Rattle.lrc_races_text.proofs.SessionLemmas.{fault_never_ill, too_long}
use Rattle.lrc_races_text.proofs.session.Session.keep.Goals as goal

pub returns-then-is_too_long-clause-bad : goal.returns-then-is_too_long-clause-bad
returns-then-is_too_long-clause-bad c = too_long c.args.self.now c.args.part.now _ _ _ c.halt_of.ensures c.in_ok-number.ensures.ok
    (c.is_too_long.ensures.0 c.if-is_too_long.true) c.bad_event.ensures

pub returns-then-is_too_long-clause-ill : goal.returns-then-is_too_long-clause-ill
returns-then-is_too_long-clause-ill c = fault_never_ill _ _ c.halt_of.ensures
