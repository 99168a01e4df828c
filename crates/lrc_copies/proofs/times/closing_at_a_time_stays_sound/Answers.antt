use Rattle.lrc_copies.proofs.Timing.{closed_sound, closed_fits}
use Rattle.lrc_copies.proofs.times.closing_at_a_time_stays_sound.Goals as goal

pub returns-clause-sound : goal.returns-clause-sound
returns-clause-sound g c = λ s wrote changes nodes all time x twin copy closed sound with_twin fits.
    closed_sound s wrote changes nodes all time x closed twin copy sound with_twin fits

pub returns-clause-fits : goal.returns-clause-fits
returns-clause-fits g c = λ s wrote changes nodes all time x twin copy closed with_twin fits.
    closed_fits s wrote changes nodes all time x closed twin copy with_twin fits
