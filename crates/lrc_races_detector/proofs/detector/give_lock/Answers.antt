-- What locks keep, one event further.
use Rattle.std.proofs.Common.{ap, inl, inr}
use Rattle.lrc_races_trace.specs.Trace.{given}
use Rattle.lrc_races_detector.proofs.Giving.{given-none, locks_kept, locks_given}
use Rattle.lrc_races_detector.specs.Vectors.{entries}
use Rattle.lrc_races_detector.proofs.detector.give_lock.Goals as goal

pub returns-in_default : goal.returns-in_default
returns-in_default c = λ events n here g old.
    locks_kept events n c.args.event here c.args.locks.now
    (given-none c.args.event.operation c.in_default.not-Release c.in_default.not-Post) old

pub returns-in_ok-gain-in-Release : goal.returns-in_ok-gain-in-Release
returns-in_ok-gain-in-Release c = λ events n here g old.
    locks_given events n c.args.event here c.in-Release.lock
    (elim c.in-Release.is [ inl released ↦ ap given released | inr posted ↦ ap given posted ]) c.args.locks.now c.gain.new.self (entries c.args.known) g c.in_ok-gain-in-Release.ensures old
