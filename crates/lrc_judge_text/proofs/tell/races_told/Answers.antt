use Rattle.std.proofs.Common.{ℕ, List, ap, subst, sym, false, ◌∙◌}
use Rattle.lrc_text.specs.RaceText.{races_text}
use Rattle.lrc_judge_text.specs.Judgement.{TellsRaces, named}
use Rattle.lrc_judge_text.proofs.tell.races_told.Goals as goal

pub returns : goal.returns
returns c =
    subst (λ (t : List ℕ). TellsRaces c.args.acts.now false t) (sym (c.in_ok-part.ensures ∙ ap races_text c.deref.ensures.value))
    (named c.in_ok-races.ensures)
