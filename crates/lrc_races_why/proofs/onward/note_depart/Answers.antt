-- A depart is of a cycle, or of none, and nothing else is.
use Rattle.lrc_races_why.proofs.Gating.{depart_noted, depart_kept}
use Rattle.lrc_races_why.proofs.onward.note_depart.Goals as goal

pub returns-in_ok-note_cycle-in-Depart : goal.returns-in_ok-note_cycle-in-Depart
returns-in_ok-note_cycle-in-Depart c = λ events to n here e g old.
    depart_noted events to n c.args.event here c.args.start g c.in-Depart.barrier c.args.number c.in-Depart.is e c.args.departs.now.items
    c.note_cycle.new.departs.items c.in_ok-note_cycle-in-Depart.ensures.some c.in_ok-note_cycle-in-Depart.ensures.none old

pub returns-in_default : goal.returns-in_default
returns-in_default c = λ events to n here e g old.
    depart_kept events to n c.args.event here c.args.start g c.in_default.not-Depart c.args.departs.now.items old
