use Rattle.std.proofs.Common.{◌==◌, ℕ, Bool, rules, tests}
use Rattle.std.specs.Prelude.{not}
use Rattle.std.specs.Char.{is_ascii_digit}
use Rattle.std.proofs.lemmas.Iterator.{YieldsList-from_slice}
use Rattle.std.proofs.lemmas.Iterator.Search.{position_from_yields_List}
use Rattle.lrc_acts.proofs.WordLemmas.{place_is}
use Rattle.lrc_acts_lines.proofs.named.end_of_digits.Goals as goal

abbrev is_sign : ℕ → Bool
is_sign byte = not (is_ascii_digit byte)

pub returns-clause-place : goal.returns-clause-place
returns-clause-place c =
    let at = position_from_yields_List is_sign _ _ c.position.result c.position.ensures.ran (YieldsList-from_slice c.args.text.now cc)
    (λ x b q k. search (rules, tests)) in
    place_is is_sign c.args.text.now c.position.result c.unwrap_or.result at c.unwrap_or.ensures
