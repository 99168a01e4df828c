use Rattle.lrc_store.proofs.Lookups.{notice_at-added, stored_at-added, stored_at-added_other}
use Rattle.lrc_store.proofs.Stores.{intervals_of-added}
use Rattle.lrc_store.proofs.laws.adding_makes_one_entry.Goals as goal

pub returns-clause-here : goal.returns-clause-here
returns-clause-here c = stored_at-added

pub returns-clause-others : goal.returns-clause-others
returns-clause-others c = stored_at-added_other

pub returns-clause-intervals : goal.returns-clause-intervals
returns-clause-intervals c = intervals_of-added

pub returns-clause-notices : goal.returns-clause-notices
returns-clause-notices c = notice_at-added
