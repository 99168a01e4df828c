use Rattle.lrc_reading_laws.proofs.Closed.History.{history_of}
use Rattle.lrc_reading_laws.proofs.Whole.{stamps, of_acts}
use Rattle.lrc_reading_laws.proofs.made.what_is_known_was_made.Goals as goal

pub returns : goal.returns
returns c = λ program nodes options events world e.
    let h = history_of program nodes options events world e in (
      h.0,
      stamps program nodes options world h.0 h.1,
      of_acts program nodes options world h.0 h.1,
    )
