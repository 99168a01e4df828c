use Rattle.std.proofs.Common.{◌≤◌, length, unwrap_or, rules, tests, ap, sym, subst, ◌∙◌}
use Rattle.std.proofs.lemmas.Iterator.{YieldsList-from_slice}
use Rattle.std.proofs.lemmas.Iterator.Search.{position_from_yields_List}
use Rattle.lrc_lang.proofs.Names.{spells, position-le, number_of-texts, number_of-le, unwrap_or-cond}
use Rattle.lrc_lang.proofs.limits.number_of.Goals as goal

pub returns-clause-value : goal.returns-clause-value
returns-clause-value c =
    let names = c.args.names.now in
    let bytes = c.args.name.now in
    let at = position_from_yields_List (spells bytes) _ _ c.position.result c.position.ensures.ran (YieldsList-from_slice names cc)
    (λ x b q k. search (rules, tests)) in
    c.unwrap_or.ensures
    ∙ ap (λ found. unwrap_or found (length names)) at
    ∙ unwrap_or-cond _ _ (position-le (spells bytes) names)
    ∙ number_of-texts names bytes

pub returns-clause-bound : goal.returns-clause-bound
returns-clause-bound c = subst (λ n. n ≤ length c.args.names.now) (sym (returns-clause-value c)) (number_of-le c.args.names.now c.args.name.now)
