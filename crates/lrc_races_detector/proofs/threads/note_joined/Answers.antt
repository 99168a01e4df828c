-- The thread that is joined has a line.
use Rattle.lrc_races_detector.proofs.Firsts.{joined_kept, joined_noted}
use Rattle.lrc_races_detector.proofs.threads.note_joined.Goals as goal

pub returns-in_ok-note-in-Join : goal.returns-in_ok-note-in-Join
returns-in_ok-note-in-Join c = λ events n here old.
    joined_noted events n c.args.event here c.in-Join.thread c.in-Join.is c.args.joined.now c.note.new.self c.in_ok-note-in-Join.ensures old

pub returns-in_default : goal.returns-in_default
returns-in_default c = λ events n here old. joined_kept events n c.args.event here c.args.joined.now c.in_default.not-Join old
