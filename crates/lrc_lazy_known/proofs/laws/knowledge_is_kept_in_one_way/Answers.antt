use Rattle.lrc_lazy_known.proofs.Tidy.{knowledge_one}
use Rattle.lrc_lazy_known.proofs.laws.knowledge_is_kept_in_one_way.Goals as goal

pub returns : goal.returns
returns c = knowledge_one
