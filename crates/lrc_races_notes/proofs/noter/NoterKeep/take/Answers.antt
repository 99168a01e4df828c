-- One line more is noted.
use Rattle.lrc_races_notes.proofs.noter.NoterKeep.take.Goals as goal

pub returns-clause-ok : goal.returns-clause-ok
returns-clause-ok c sought lines counted h = c.note.ensures lines counted h
