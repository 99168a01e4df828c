use Rattle.lrc_reading_laws.proofs.Whole.{reads}
use Rattle.lrc_reading_laws.proofs.Lazy.Theorem.{is_race_free}
use Rattle.lrc_reading_laws.proofs.theorem.races_belong_to_the_program.Goals as goal

pub returns : goal.returns
returns c = λ program nodes options events world e none.
    is_race_free program nodes options (reads program nodes options) world (record { events = events; runs = e }) none
