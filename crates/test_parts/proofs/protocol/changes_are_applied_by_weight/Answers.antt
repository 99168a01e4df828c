use Rattle.std.proofs.Common.{refl}
use Rattle.lrc_page.specs.Page.{zero_page}
use Rattle.test_parts.proofs.protocol.changes_are_applied_by_weight.Goals as goal

pub returns-clause-order : goal.returns-clause-order
unfolding zero_page
returns-clause-order c = refl

pub returns-clause-reads : goal.returns-clause-reads
unfolding zero_page
returns-clause-reads c = refl
