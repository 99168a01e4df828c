-- The turns of a run, one event further.
use Rattle.std.proofs.Common.{◌≡◌, ◌∙◌, ℕ, ◌+◌, ◌<◌, List, [], ◌∷◌, ◌++◌, Option, Some, None, refl, sym, ap, subst, append-nil, append_assoc, get_or, length, take, drop}
use Rattle.std.specs.Prelude.{fold}
use Rattle.std.proofs.lemmas.List.{take-append-drop, take_more}
use Rattle.std.proofs.lemmas.List.Sums.{fold-append}
use Rattle.std.proofs.lemmas.Option.{same_Some}
use Rattle.lrc_protocol.specs.declared.event.Event.{Event}
use Rattle.lrc_protocol.specs.Run.{event_on, played, step_of, World}
use Rattle.lrc_replay.specs.Turns.{Turn, turn_by, turns_from}

-- a run that comes to a world comes to one before
some_before : (o : Option World) (more : List Event) (end : World) → fold step_of o more ≡ Some end → (world : World) × (o ≡ Some world)
some_before (Some world) more end goes = (world, refl)
some_before None [] end goes = cc
some_before None (event ∷ more) end goes = some_before None more end goes

turns_more : (o : Option World) (events : List Event) (event : Event) (now : World) → fold step_of o events ≡ Some now
    → turns_from o (events ++ event ∷ []) ≡ turns_from o events ++ turn_by now event
turns_more None [] event now goes = cc
turns_more (Some world) [] event now goes = append-nil (turn_by world event) ∙ ap (λ w. turn_by w event) (same_Some world now goes)
turns_more None (first ∷ events) event now goes =
    let before = some_before None events now goes in
    let never : None ≡ Some before.0 = before.1 in cc
turns_more (Some world) (first ∷ events) event now goes =
    ap (λ l. turn_by world first ++ l) (turns_more (event_on world first) events event now goes)
    ∙ sym (append_assoc (turn_by world first) (turns_from (event_on world first) events) (turn_by now event))

module _ (world end : World) (events : List Event) (k : ℕ) (d : Event) (within : k < length events) (goes : played world events ≡ Some end)
    (now : World) (stands : played world (take k events) ≡ Some now) where
  abbrev event : Event
  event = get_or events k d

  one : played world (take (k + 1) events) ≡ event_on now event
  one =
      ap (played world) (take_more events k d within)
      ∙ fold-append step_of (Some world) (take k events) (event ∷ [])
      ∙ ap (λ w. step_of w event) stands

  -- the next world
  pub goes_on : (next : World) × (event_on now event ≡ Some next) × (played world (take (k + 1) events) ≡ Some next)
  goes_on =
      let whole = sym (fold-append step_of (Some world) (take (k + 1) events) (drop (k + 1) events)) ∙ ap (played world) (take-append-drop (k + 1) events) ∙ goes in
      let found = some_before (played world (take (k + 1) events)) (drop (k + 1) events) end whole in
      (found.0, sym one ∙ found.1, found.1)

  pub turns_on : turns_from (Some world) (take (k + 1) events) ≡ turns_from (Some world) (take k events) ++ turn_by now event
  turns_on = ap (turns_from (Some world)) (take_more events k d within) ∙ turns_more (Some world) (take k events) event now stands
