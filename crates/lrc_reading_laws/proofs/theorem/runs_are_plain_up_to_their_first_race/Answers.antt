use Rattle.lrc_reading_laws.proofs.Whole.{reads}
use Rattle.lrc_reading_laws.proofs.Lazy.Theorem.{is_plain_to_race}
use Rattle.lrc_reading_laws.proofs.theorem.runs_are_plain_up_to_their_first_race.Goals as goal

pub returns : goal.returns
returns c = λ program nodes options events world position e first.
    is_plain_to_race program nodes options (reads program nodes options) world (record { events = events; runs = e }) position first
