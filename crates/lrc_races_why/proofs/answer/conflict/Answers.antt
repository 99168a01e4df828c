-- What is no access conflicts with nothing.
use Rattle.std.proofs.Common.{sym}
use Rattle.std.proofs.lemmas.Bool.{true≢false}
use Rattle.lrc_races_why.proofs.answer.conflict.Goals as goal

pub returns-in_default : goal.returns-in_default
returns-in_default c = (λ h. absurd (true≢false (sym h)), λ conflict. absurd (c.in_default.ensures conflict.variable conflict.first))

pub returns-in_default-accessed : goal.returns-in_default-accessed
returns-in_default-accessed c = (λ h. absurd (true≢false (sym h)), λ conflict. absurd (c.in_default-accessed.ensures conflict.variable conflict.second))
