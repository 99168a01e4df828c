use Rattle.lrc_store.proofs.Lookups.{notice_at-attached, notice_at-attached_other}
use Rattle.lrc_store.proofs.Stores.{intervals_of-attached}
use Rattle.lrc_store.proofs.laws.attaching_changes_one_notice.Goals as goal

pub returns-clause-here : goal.returns-clause-here
returns-clause-here c = notice_at-attached

pub returns-clause-others : goal.returns-clause-others
returns-clause-others c = notice_at-attached_other

pub returns-clause-intervals : goal.returns-clause-intervals
returns-clause-intervals c = intervals_of-attached
