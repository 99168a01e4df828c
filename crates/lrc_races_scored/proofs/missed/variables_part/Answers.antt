-- They are scored or not; all that race are known.
use Rattle.std.proofs.Common.{List, subst, sym}
use Rattle.std.proofs.lemmas.Result.{IfOk-weaker}
use Rattle.lrc_races_missed.specs.Missed.{AreAllRacing}
use Rattle.lrc_races_missed.specs.declared.variables.Racing.{Racing}
use Rattle.lrc_races_scored.proofs.MissedLemmas.{on_any, scored_so, unscored}
use Rattle.lrc_races_scored.proofs.missed.variables_part.Goals as goal

pub returns-then-not-is_scored-clause-missed : goal.returns-then-not-is_scored-clause-missed
returns-then-not-is_scored-clause-missed c = λ sought naming last places by_line numbered is are.
    unscored _ _ c.is_scored.result _ c.is_scored.ensures c.if-not-is_scored.true c.new.ensures.items

pub returns-clause-missed : goal.returns-clause-missed
returns-clause-missed c =
    IfOk-weaker c.missed_variables.result _ _ (λ missed says sought naming last places by_line numbered is are.
    scored_so _ _ c.is_scored.result c.is_scored.ensures c.if-not-is_scored.false
    (says sought naming c.args.events.now c.args.claims.now places
    (subst (λ (all : List Racing). AreAllRacing sought c.args.events.now all) (sym c.as_slice.ensures.value)
    (c.in_ok-all.ensures.racing sought naming last by_line is)) numbered are)) c.missed_variables.ensures

pub returns-clause-stays : goal.returns-clause-stays
returns-clause-stays c = on_any c.missed_variables.result c.in_ok-all.ensures.stays
