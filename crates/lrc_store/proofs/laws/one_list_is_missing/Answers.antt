use Rattle.lrc_store.proofs.Ranks.{IsMissing-missing_of, IsMissing-only}
use Rattle.lrc_store.proofs.laws.one_list_is_missing.Goals as goal

pub returns-clause-exact : goal.returns-clause-exact
returns-clause-exact c = IsMissing-missing_of

pub returns-clause-only : goal.returns-clause-only
returns-clause-only c = IsMissing-only
