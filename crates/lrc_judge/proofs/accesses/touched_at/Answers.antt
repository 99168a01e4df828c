-- Nothing is kept of a word that nobody accessed.
use Rattle.std.proofs.Common.{sym, subst}
use Rattle.lrc_judge.specs.Touched.{IsTouchedOr}
use Rattle.lrc_judge.proofs.Touching.{IsTouched-none}
use Rattle.lrc_judge.proofs.accesses.touched_at.Goals as goal

pub returns-in-None : goal.returns-in-None
returns-in-None c = λ run n old.
    IsTouched-none run n c.args.word c.none.result c.none.ensures.accessed c.none.ensures.written
    (subst (λ o. IsTouchedOr run n c.args.word o) (sym c.in-None.ensures.value) (old c.args.word))
