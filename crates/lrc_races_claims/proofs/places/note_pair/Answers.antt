-- The numbers of its places are looked for.
use Rattle.std.proofs.Common.{List, ℕ, subst}
use Rattle.std.specs.Prelude.{MatchOption}
use Rattle.lrc_races_text.specs.Tables.{naming_of}
use Rattle.lrc_races_claims.specs.Known.{IsOnlyNumber, IsUnknown, known_names}
use Rattle.lrc_races_claims.proofs.Saying.{on_ok}
use Rattle.lrc_races_claims.proofs.places.note_pair.Goals as goal

pub returns-clause-pairs : goal.returns-clause-pairs
returns-clause-pairs c =
    let name = c.place_name-name.result.now in
    let other = c.place_name-other.result.now in
    on_ok c.add_both.result c.add_both.ensures (λ all.
    all (naming_of c.args.names.now) (known_names c.args.places.now.names) c.args.pair name other c.place_name-name.ensures
    c.place_name-other.ensures c.in_ok-earlier.ensures.found
    (subst (λ (names : List (List ℕ)). MatchOption c.in_ok-later.later (IsUnknown names other) (IsOnlyNumber names other)) c.in_ok-earlier.ensures.kept
    c.in_ok-later.ensures.found))
