-- Both places have numbers, and race or not; or one has none.
use Rattle.std.proofs.Common.{◌≡◌, List, inl, inr, sym, subst}
use Rattle.std.specs.Prelude.{Contains, true}
use Rattle.lrc_races_claims.specs.Truth.{none_at_first, none_at_second, places_apart, places_race}
use Rattle.lrc_races_claims.specs.Known.{known_names}
use Rattle.lrc_races_claims.specs.declared.places.TwoPlaces.{TwoPlaces}
use Rattle.lrc_races_claims.proofs.Pairing.{only_found, none_found, none_at, some_at, race_straight, race_crossed, race_there}
use Rattle.lrc_races_claims.proofs.places.judge_places.Goals as goal

pub returns-in-None : goal.returns-in-None
returns-in-None c = λ sought naming events last places place other are same known known'.
    none_at_first (none_at sought naming events places are place (none_found (known_names places.names) place c.args.first c.in-None.is known))

pub returns-in-None-second : goal.returns-in-None-second
returns-in-None-second c = λ sought naming events last places place other are same known known'.
    let names = known_names places.names in
    none_at_second
    (some_at sought naming events places are place c.in-Some.first (only_found names place c.args.first c.in-Some.first c.in-Some.is known))
    (none_at sought naming events places are other (none_found names other c.args.second c.in-None-second.is known'))

pub returns-then-are_there : goal.returns-then-are_there
returns-then-are_there c = λ sought naming events last places place other are same known known'.
    let names = known_names places.names in
    let only = only_found names place c.args.first c.in-Some.first c.in-Some.is known in
    let only' = only_found names other c.args.second c.in-Some-second.second c.in-Some-second.is known' in
    places_race (race_straight sought naming events places are place other c.in-Some.first c.in-Some-second.second only only'
    (subst (λ (keys : List TwoPlaces). Contains keys (record { earlier = c.in-Some.first; later = c.in-Some-second.second })) (sym same)
    (c.are_there.ensures.0 c.if-are_there.true)))

pub returns-then-are_there-2 : goal.returns-then-are_there-2
returns-then-are_there-2 c = λ sought naming events last places place other are same known known'.
    let names = known_names places.names in
    let only = only_found names place c.args.first c.in-Some.first c.in-Some.is known in
    let only' = only_found names other c.args.second c.in-Some-second.second c.in-Some-second.is known' in
    places_race (race_crossed sought naming events places are place other c.in-Some.first c.in-Some-second.second only only'
    (subst (λ (keys : List TwoPlaces). Contains keys (record { earlier = c.in-Some-second.second; later = c.in-Some.first })) (sym same)
    (c.are_there-in-Some-second.ensures.0 c.if-are_there-2.true)))

pub returns-else-are_there-2 : goal.returns-else-are_there-2
returns-else-are_there-2 c = λ sought naming events last places place other are same known known'.
    let names = known_names places.names in
    let only = only_found names place c.args.first c.in-Some.first c.in-Some.is known in
    let only' = only_found names other c.args.second c.in-Some-second.second c.in-Some-second.is known' in
    places_apart (some_at sought naming events places are place c.in-Some.first only)
    (some_at sought naming events places are other c.in-Some-second.second only')
    (λ race. elim (race_there sought naming events places are place other c.in-Some.first c.in-Some-second.second only only' race) [
      | inl there ↦
          let set : c.are_there.result ≡ true = c.are_there.ensures.1
          (subst (λ (keys : List TwoPlaces). Contains keys (record { earlier = c.in-Some.first; later = c.in-Some-second.second })) same there) in
          let unset = c.if-are_there.false in let never : ⊥ = cc in never
      | inr there ↦
          let set : c.are_there-in-Some-second.result ≡ true = c.are_there-in-Some-second.ensures.1
          (subst (λ (keys : List TwoPlaces). Contains keys (record { earlier = c.in-Some-second.second; later = c.in-Some.first })) same there) in
          let unset = c.if-are_there-2.false in let never : ⊥ = cc in never
    ])
