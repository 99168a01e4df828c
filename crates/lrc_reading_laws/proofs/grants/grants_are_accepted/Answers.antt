use Rattle.lrc_reading_laws.proofs.Stamped.Grants.{grant_expected}
use Rattle.lrc_reading_laws.proofs.grants.grants_are_accepted.Goals as goal

pub returns : goal.returns
returns c = λ program nodes options events world e m l runs there is at.
    grant_expected program nodes options events world e m l runs there is at
