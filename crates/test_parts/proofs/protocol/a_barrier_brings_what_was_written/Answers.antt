use Rattle.std.proofs.Common.{refl}
use Rattle.lrc_page.specs.Page.{zero_page}
use Rattle.test_parts.proofs.protocol.a_barrier_brings_what_was_written.Goals as goal

pub returns-clause-reads : goal.returns-clause-reads
unfolding zero_page
returns-clause-reads c = refl

pub returns-clause-messages : goal.returns-clause-messages
unfolding zero_page
returns-clause-messages c = refl
