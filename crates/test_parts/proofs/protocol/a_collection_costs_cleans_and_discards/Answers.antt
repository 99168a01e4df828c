use Rattle.std.proofs.Common.{refl}
use Rattle.lrc_page.specs.Page.{zero_page}
use Rattle.test_parts.proofs.protocol.a_collection_costs_cleans_and_discards.Goals as goal

pub returns-clause-collected : goal.returns-clause-collected
unfolding zero_page
returns-clause-collected c = refl

pub returns-clause-uncollected : goal.returns-clause-uncollected
unfolding zero_page
returns-clause-uncollected c = refl
