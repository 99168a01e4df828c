use Rattle.lrc_store.proofs.Stores.{IsStore-discarded, intervals_of-discarded}
use Rattle.lrc_store.proofs.laws.discarding_takes_out_what_is_known.Goals as goal

pub returns-clause-intervals : goal.returns-clause-intervals
returns-clause-intervals c = intervals_of-discarded

pub returns-clause-sound : goal.returns-clause-sound
returns-clause-sound c = IsStore-discarded
