use Rattle.std.proofs.Common.{◌==◌, ℕ, Bool, rules, tests}
use Rattle.std.proofs.lemmas.Iterator.{YieldsList-from_slice}
use Rattle.std.proofs.lemmas.Iterator.Search.{position_from_yields_List}
use Rattle.lrc_acts.proofs.WordLemmas.{place-le, place_is}
use Rattle.lrc_races_why.proofs.deed.place_of_bar.Goals as goal

abbrev is_bar : ℕ → Bool
is_bar byte = byte == 124

pub returns-clause-place : goal.returns-clause-place
returns-clause-place c =
    let at = position_from_yields_List is_bar _ _ c.position.result c.position.ensures.ran (YieldsList-from_slice c.args.text.now cc)
    (λ x b q k. search (rules, tests)) in
    place_is is_bar c.args.text.now c.position.result c.unwrap_or.result at c.unwrap_or.ensures

pub returns-clause-bound : goal.returns-clause-bound
returns-clause-bound c = place-le is_bar c.args.text.now _ (returns-clause-place c)
