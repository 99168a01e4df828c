-- An acquire and a wait get a lock, and nothing else does.
use Rattle.std.proofs.Common.{ap, inl, inr}
use Rattle.lrc_races_trace.specs.Trace.{got}
use Rattle.lrc_races_why.proofs.Gating.{got-none, locks_noted, locks_kept}
use Rattle.lrc_races_why.proofs.onward.note_lock.Goals as goal

pub returns-in_ok-gain-in-Acquire : goal.returns-in_ok-gain-in-Acquire
returns-in_ok-gain-in-Acquire c = λ events to n here g old.
    locks_noted events to n c.args.event here c.args.start g c.in-Acquire.lock
    (elim c.in-Acquire.is [ inl acquired ↦ ap got acquired | inr waited ↦ ap got waited ])
    c.args.locks.now.items c.gain.new.row.items c.in_ok-gain-in-Acquire.ensures old

pub returns-in_default : goal.returns-in_default
returns-in_default c = λ events to n here g old.
    locks_kept events to n c.args.event here c.args.start g (got-none c.args.event.operation c.in_default.not-Acquire c.in_default.not-Wait)
    c.args.locks.now.items old
