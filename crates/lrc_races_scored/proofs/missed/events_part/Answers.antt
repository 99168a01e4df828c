-- Events are scored or not; the facts are known.
use Rattle.std.proofs.Common.{List, Bool, length, subst, sym, ap, ◌∙◌}
use Rattle.std.proofs.lemmas.Result.{IfOk-weaker}
use Rattle.lrc_races_claims.specs.Racing.{AreMarked}
use Rattle.lrc_races_scored.proofs.MissedLemmas.{on_any, scored_so, unscored}
use Rattle.lrc_races_scored.proofs.missed.events_part.Goals as goal

pub returns-then-not-is_scored-clause-missed : goal.returns-then-not-is_scored-clause-missed
returns-then-not-is_scored-clause-missed c = λ sought naming last variables places by_line is are.
    unscored _ _ c.is_scored.result _ c.is_scored.ensures c.if-not-is_scored.true c.new.ensures.items

pub missed_events-requires : goal.missed_events-requires
missed_events-requires c =
    let some = c.requires in
    let known = c.in_ok-learn_facts.ensures.stays some.sought some.naming some.last some.is in
    ap length c.as_slice.ensures.value ∙ (known.facts c.in-Some.facts c.in-Some.is).marked.long

pub returns-clause-missed : goal.returns-clause-missed
returns-clause-missed c =
    IfOk-weaker c.missed_events.result _ _ (λ lines says sought naming last variables places by_line is are.
    let known = c.in_ok-learn_facts.ensures.stays sought naming last is in
    scored_so _ _ c.is_scored.result c.is_scored.ensures c.if-not-is_scored.false
    (says sought c.args.claims.now variables places by_line
    (subst (λ (marks : List Bool). AreMarked sought c.args.events.now (length c.args.events.now) marks) (sym c.as_slice.ensures.value)
    (known.facts c.in-Some.facts c.in-Some.is).marked) are)) c.missed_events.ensures

pub returns-clause-stays : goal.returns-clause-stays
returns-clause-stays c = on_any c.missed_events.result c.in_ok-learn_facts.ensures.stays
