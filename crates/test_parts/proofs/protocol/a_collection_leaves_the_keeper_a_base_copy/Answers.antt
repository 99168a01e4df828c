use Rattle.std.proofs.Common.{refl}
use Rattle.lrc_page.specs.Page.{zero_page}
use Rattle.test_parts.proofs.protocol.a_collection_leaves_the_keeper_a_base_copy.Goals as goal

pub returns-clause-intervals : goal.returns-clause-intervals
unfolding zero_page
returns-clause-intervals c = refl

pub returns-clause-keepers : goal.returns-clause-keepers
unfolding zero_page
returns-clause-keepers c = refl

pub returns-clause-readable : goal.returns-clause-readable
unfolding zero_page
returns-clause-readable c = refl

pub returns-clause-reads : goal.returns-clause-reads
unfolding zero_page
returns-clause-reads c = refl
