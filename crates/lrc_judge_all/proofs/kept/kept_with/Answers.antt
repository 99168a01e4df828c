use Rattle.std.proofs.Common.{Option, subst}
use Rattle.lrc_judge_all.specs.Known.{IsKept}
use Rattle.lrc_judge_all.specs.declared.kept.Kept.{Kept}
use Rattle.lrc_judge_all.proofs.kept.kept_with.Goals as goal

pub returns-in_ok-kept-in-Some : goal.returns-in_ok-kept-in-Some
returns-in_ok-kept-in-Some c = λ run known word of done fresh old.
    c.in_ok-kept-in-Some.ensures run known word of done fresh (subst (λ (o : Option Kept). IsKept run known word o) c.in-Some.is old)

pub returns-in_ok-first-in-None : goal.returns-in_ok-first-in-None
returns-in_ok-first-in-None c = λ run known word of done fresh old.
    c.in_ok-first-in-None.ensures run known word done (subst (λ (o : Option Kept). IsKept run known word o) c.in-None.is old)
