use Rattle.lrc_world_laws.proofs.Reports.{same_races, says_the_same}
use Rattle.lrc_world_laws.proofs.laws.what_is_kept_changes_the_turns_alone.Goals as goal

pub returns-clause-same : goal.returns-clause-same
returns-clause-same c = says_the_same

pub returns-clause-races : goal.returns-clause-races
returns-clause-races c = same_races
