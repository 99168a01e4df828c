use Rattle.lrc_lazy_known.proofs.Stepping.{knowledge_on}
use Rattle.lrc_lazy_known.proofs.laws.an_act_changes_what_is_known_by_its_effect.Goals as goal

pub returns : goal.returns
returns c = knowledge_on
