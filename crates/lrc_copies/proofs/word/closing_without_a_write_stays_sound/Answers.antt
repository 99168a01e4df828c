use Rattle.lrc_copies.proofs.Closing.{sound_unwritten}
use Rattle.lrc_copies.proofs.word.closing_without_a_write_stays_sound.Goals as goal

pub returns : goal.returns
returns g c = λ w all x sound added. sound_unwritten w all x added sound
