use Rattle.lrc_consistency_laws.proofs.Waiting.{waits_at_barriers}
use Rattle.lrc_consistency_laws.proofs.plain.a_run_that_follows_the_text_waits_at_barriers.Goals as goal

pub returns : goal.returns
returns c = waits_at_barriers
