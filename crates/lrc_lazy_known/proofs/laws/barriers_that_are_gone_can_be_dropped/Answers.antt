use Rattle.lrc_lazy_known.proofs.Dropping.{knowledge_without}
use Rattle.lrc_lazy_known.proofs.laws.barriers_that_are_gone_can_be_dropped.Goals as goal

pub returns : goal.returns
returns c = knowledge_without
