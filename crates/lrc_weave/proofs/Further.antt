-- The event of one turn more than logs have, as the code finds it.
use Rattle.std.proofs.Common.{◌≡◌, ◌∙◌, ◌++◌, ◌∷◌, ℕ, ◌+◌, Bool, false, List, [], length, map, cond, refl, sym, ap}
use Rattle.std.specs.Prelude.{Some, None, not, nat_lt, position}
use Rattle.std.specs.List.{position_or_len}
use Rattle.std.proofs.lemmas.List.{length-map}
use Rattle.lrc_protocol.specs.declared.event.Event.{Event}
use Rattle.lrc_protocol.specs.Run.{Input, run, taken, EntryRecord, Flying}
use Rattle.lrc_weave.specs.declared.events.MessageName.{MessageName}
use Rattle.lrc_weave.specs.Events.{has_name, IsMadeByEvent, LacksMessage}
use Rattle.lrc_weave.specs.Further.{AreWovenWith, AreWovenWithout, MakesFurther, LacksFurther}
use Rattle.lrc_weave.specs.Woven.{AreWoven}
use Rattle.lrc_weave.proofs.Stepping.{name_at}

module _ {X Y : Type 0} (f : X → Y) (p : Y → Bool) where
  place_mapped : (xs : List X) → position_or_len p (map f xs) ≡ position_or_len (λ x. p (f x)) xs
  place_mapped [] = refl
  place_mapped (x ∷ xs) = ap (λ n. cond (not (p (f x))) (1 + n) 0) (place_mapped xs)

  position_mapped : (xs : List X) → position p (map f xs) ≡ position (λ x. p (f x)) xs
  position_mapped xs =
      ap (λ n. cond (nat_lt n (length (map f xs))) (Some n) None) (place_mapped xs)
      ∙ ap (λ k. cond (nat_lt (position_or_len (λ x. p (f x)) xs) k) (Some (position_or_len (λ x. p (f x)) xs)) None) (length-map xs f)

module _ (flight : List Flying) (names : List MessageName) (same : map name_at flight ≡ names) where
  further : (node : ℕ) (left : List MessageName) (input : Input) (event : Event) → IsMadeByEvent node false names input left event
      → MakesFurther node flight input event
  further node left run event made = made.0
  further node left (taken envelope) event made =
      (made.0, sym (position_mapped name_at (has_name envelope) flight) ∙ ap (position (has_name envelope)) same ∙ made.1, made.2)

  lacks : (input : Input) → LacksMessage names input → LacksFurther flight input
  lacks run none = none
  lacks (taken envelope) none = sym (position_mapped name_at (has_name envelope) flight) ∙ ap (position (has_name envelope)) same ∙ none

-- what the code answers, of logs whose events and flight it has
module _ (logs : List (List EntryRecord)) (before : List Event) (names : List MessageName) (input : Input)
    (woven : (flight : List Flying) × AreWoven logs before flight × (map name_at flight ≡ names)) where
  pub woven_with : (node : ℕ) (left : List MessageName) (event : Event) (events : List Event) → IsMadeByEvent node false names input left event
      → events ≡ before ++ event ∷ [] → AreWovenWith logs node input events
  woven_with node left event events made is =
      (before, woven.0, event, woven.1, further woven.0 names woven.2 node left input event made, is)

  pub woven_without : LacksMessage names input → AreWovenWithout logs input
  woven_without none = (before, woven.0, woven.1, lacks woven.0 names woven.2 input none)
