use Rattle.lrc_reading_laws.proofs.Whole.{reads}
use Rattle.lrc_why_laws.proofs.Giving.{may_give}
use Rattle.lrc_why_laws.proofs.laws.reads_of_runs_give_what_they_may.Goals as goal

pub returns : goal.returns
returns c = λ program nodes options events world position reasons gift e are is.
    may_give gift (reads program nodes options world (record { events = events; runs = e })) are.does are.about is
