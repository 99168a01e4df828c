use Rattle.lrc_need.proofs.Askable.{missing-AreAskable}
use Rattle.lrc_need.proofs.laws.missing_changes_may_be_asked_for.Goals as goal

pub returns : goal.returns
returns c = missing-AreAskable
