use Rattle.lrc_exec.proofs.RoundsLaws.{rounds_determined}
use Rattle.lrc_exec.proofs.laws.rounds_are_determined.Goals as goal

pub returns : goal.returns
returns c = λ program nodes steps first second a b. rounds_determined program nodes steps first second a b
