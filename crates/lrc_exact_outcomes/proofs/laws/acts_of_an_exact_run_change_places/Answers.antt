use Rattle.lrc_exact_outcomes.proofs.Fronting.{changes_places}
use Rattle.lrc_exact_outcomes.proofs.laws.acts_of_an_exact_run_change_places.Goals as goal

pub returns : goal.returns
returns c = changes_places
