use Rattle.lrc_store.proofs.Ranks.{IsNewer-newer_of, IsNewer-only}
use Rattle.lrc_store.proofs.laws.one_list_is_newer.Goals as goal

pub returns-clause-exact : goal.returns-clause-exact
returns-clause-exact c = IsNewer-newer_of

pub returns-clause-only : goal.returns-clause-only
returns-clause-only c = IsNewer-only
