use Rattle.lrc_copies.proofs.Closing.{sound_closed}
use Rattle.lrc_copies.proofs.word.closing_stays_sound.Goals as goal

pub returns : goal.returns
returns g c = λ w all x twin value sound added closed. sound_closed w all x twin value closed added sound
