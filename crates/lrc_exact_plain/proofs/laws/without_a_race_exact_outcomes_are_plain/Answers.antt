use Rattle.lrc_exact_plain.proofs.Calm.{exact_from_outcome, exact_to_outcome}
use Rattle.lrc_exact_plain.proofs.laws.without_a_race_exact_outcomes_are_plain.Goals as goal

pub returns : goal.returns
returns c = λ program shape none notes. (exact_to_outcome program shape none notes, exact_from_outcome program shape none notes)
