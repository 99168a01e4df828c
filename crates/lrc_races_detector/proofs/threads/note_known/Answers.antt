-- The thread of the event has a line, and the thread that it forks.
use Rattle.lrc_races_detector.proofs.Firsts.{known_own, known_forked}
use Rattle.lrc_races_detector.proofs.threads.note_known.Goals as goal

pub returns-in_ok-note-in-Fork : goal.returns-in_ok-note-in-Fork
returns-in_ok-note-in-Fork c = λ events n here old.
    known_forked events n c.args.event here c.args.known.now c.note.new.self c.in_ok-note.ensures old c.in-Fork.thread c.in-Fork.is c.note-in-Fork.new.self
    c.in_ok-note-in-Fork.ensures

pub returns-in_default : goal.returns-in_default
returns-in_default c = λ events n here old.
    known_own events n c.args.event here c.args.known.now c.note.new.self c.in_ok-note.ensures old c.in_default.not-Fork
