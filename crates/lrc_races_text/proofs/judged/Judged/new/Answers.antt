-- Nothing is judged yet.
use Rattle.std.proofs.Common.{List, refl, subst, sym}
use Rattle.lrc_races_trace.specs.declared.event.Event.{Event}
use Rattle.lrc_races_text.specs.declared.asked.Sought.{Sought}
use Rattle.lrc_races_text.specs.Detecting.{HasTaken}
use Rattle.lrc_races_text.proofs.JudgedLemmas.{judged_none}
use Rattle.lrc_races_text.proofs.judged.Judged.new.Goals as goal

pub returns : goal.returns
returns c = λ form asked is. judged_none form asked _ c.new.ensures
    (λ (events : List Event). subst (λ (sought : Sought). HasTaken sought events 0 c.new-2.result) (sym is) (c.new-2.ensures events)) c.new-3.ensures c.new-4.ensures refl
