-- Each is known with one line more.
use Rattle.lrc_races_notes.proofs.noter.Noter.note.Goals as goal

pub returns : goal.returns
returns c lines counted h =
    record { mark = c.mark_with-self.ensures lines counted h.mark; blank = c.blank_with-self.ensures lines counted h.blank }
