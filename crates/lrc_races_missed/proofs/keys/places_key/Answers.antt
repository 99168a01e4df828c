-- The places have numbers, or not.
use Rattle.std.proofs.Common.{◌≡◌, subst}
use Rattle.std.specs.Prelude.{◌↔◌, Option, Some}
use Rattle.lrc_races_claims.specs.declared.places.TwoPlaces.{TwoPlaces}
use Rattle.lrc_races_missed.specs.Keys.{AreTwoNumbers}
use Rattle.lrc_races_missed.proofs.KeyFinding.{of_no_places, of_places}
use Rattle.lrc_races_missed.proofs.keys.places_key.Goals as goal

pub returns-in-Some : goal.returns-in-Some
returns-in-Some c = λ variables places place other test.
    of_places variables places place other c.in-Some.both
    (subst (λ (o : Option TwoPlaces). (numbers : TwoPlaces) → AreTwoNumbers places place other numbers ↔ (o ≡ Some numbers)) c.in-Some.is test)

pub returns-in-None : goal.returns-in-None
returns-in-None c = λ variables places place other test.
    of_no_places variables places place other
    (subst (λ (o : Option TwoPlaces). (numbers : TwoPlaces) → AreTwoNumbers places place other numbers ↔ (o ≡ Some numbers)) c.in-None.is test)
