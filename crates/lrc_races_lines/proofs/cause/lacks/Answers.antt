-- Whether splitting finds the byte.
use Rattle.std.proofs.Common.{refl, subst}
use Rattle.std.proofs.lemmas.Bool.{false≢true}
use Rattle.lrc_races_lines.specs.Lacking.{Lacks}
use Rattle.lrc_races_lines.proofs.Spelled.{seam-not-lacking}
use Rattle.lrc_races_lines.proofs.cause.lacks.Goals as goal

pub returns-in-Some : goal.returns-in-Some
returns-in-Some c = (
  λ t. absurd (false≢true t),
  λ l. absurd (seam-not-lacking c.args.byte _ _ (subst (λ x. Lacks c.args.byte x) c.in-Some.ensures.0 l)),
)

pub returns-in-None : goal.returns-in-None
returns-in-None c = (λ t. c.in-None.ensures, λ l. refl)
