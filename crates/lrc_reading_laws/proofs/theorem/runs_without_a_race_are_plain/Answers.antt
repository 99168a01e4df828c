use Rattle.lrc_reading_laws.proofs.Whole.{reads}
use Rattle.lrc_reading_laws.proofs.Lazy.Theorem.{is_plain}
use Rattle.lrc_reading_laws.proofs.theorem.runs_without_a_race_are_plain.Goals as goal

pub returns : goal.returns
returns c = λ program nodes options events world e free.
    is_plain program nodes options (reads program nodes options) world (record { events = events; runs = e }) free
