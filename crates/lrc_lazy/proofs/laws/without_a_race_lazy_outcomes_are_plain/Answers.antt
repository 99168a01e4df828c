use Rattle.lrc_lazy.proofs.Outcomes.{to_outcome, from_outcome}
use Rattle.lrc_lazy.proofs.laws.without_a_race_lazy_outcomes_are_plain.Goals as goal

pub returns : goal.returns
returns c = λ program nodes none notes. (to_outcome program nodes none notes, from_outcome program nodes none notes)
