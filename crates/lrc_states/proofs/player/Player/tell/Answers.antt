use Rattle.std.proofs.Common.{◌≡◌, ◌∙◌, ◌+◌, ◌++◌, ℕ, None, Option, Some, ap, refl, rules, slice_get, subst, sym}
use Rattle.lrc_protocol.specs.Turn.{TurnRecord}
use Rattle.lrc_replay.specs.Replays.{IsMade, message_of}
use Rattle.lrc_states.specs.declared.player.Player.{Player}
use Rattle.lrc_states.specs.Players.{IsPlayer, take_members, was_taken}
use Rattle.lrc_states.specs.States.{event_members, known_of}
use Rattle.lrc_states.proofs.Keeping.{keeps, keeps_less, others_after}
use Rattle.lrc_states.proofs.Playing.{left_by, one_turn, passed_over}
use Rattle.lrc_states.proofs.Showing.{add_text}
use Rattle.lrc_states.proofs.TurnLine.{line_so, stands_after}
use Rattle.lrc_states.proofs.player.Player.tell.Goals as goal

pub returns-in_default-clause-player : goal.returns-in_default-clause-player
returns-in_default-clause-player c plan world next turns was goes =
    let kept = c.take_known.new.self in
    let new : Player = record kept { replay = c.make.new.self } in
    let less = c.take_known.ensures in
    let is = keeps_less plan world turns c.place_of-place.result c.args.self.now kept was less.plan less.replay less.course less.turns less.shown in
    let none : c.in_ok-turn.field-0 ≡ None = search rules in
    let made = subst (λ (o : Option TurnRecord). IsMade world c.args.event next o c.make.new.self) none (c.in_ok-turn.ensures world next is.replay goes) in
    passed_over plan world next c.args.event turns kept new is made refl refl refl is.known

pub returns-in_default-clause-told : goal.returns-in_default-clause-told
returns-in_default-clause-told c plan world next turns was goes =
    let kept = c.take_known.new.self in
    let less = c.take_known.ensures in
    let is = keeps_less plan world turns c.place_of-place.result c.args.self.now kept was less.plan less.replay less.course less.turns less.shown in
    let none : c.in_ok-turn.field-0 ≡ None = search rules in
    let made = subst (λ (o : Option TurnRecord). IsMade world c.args.event next o c.make.new.self) none (c.in_ok-turn.ensures world next is.replay goes) in
    made.0

pub returns-clause-player : goal.returns-clause-player
returns-clause-player c plan world next turns was goes =
    let event = c.args.event in
    let kept = c.take_known.new.self in
    let new : Player = record kept { replay = c.make.new.self } in
    let less = c.take_known.ensures in
    let is = keeps_less plan world turns c.place_of-place.result c.args.self.now kept was less.plan less.replay less.course less.turns less.shown in
    let turn = c.in-Some.turn in
    let made = subst (λ (o : Option TurnRecord). IsMade world event next o c.make.new.self) c.in-Some.is (c.in_ok-turn.ensures world next is.replay goes) in
    let place = c.place_of-place.ensures world made.0.node was.replay made.2.names in
    let known = others_after c.args.self.now.shown kept.shown world next event c.place_of-place.result less.shown was.known goes
    (made.2.names ∙ ap Some (sym place)) in
    let now = c.in_ok-follow.ensures.player plan next world.acts turns (left_by plan world next event turns turn kept new is made refl refl refl known) in
    let after = stands_after world next event made.0 made.2 in
    let same : c.in-Ok.node ≡ c.place_of-place.result = search rules in
    let there = subst (λ (n : ℕ). slice_get next.nodes n ≡ Some after.0) (sym (same ∙ place)) after.1 in
    let here = subst (λ (n : ℕ). slice_get next.nodes n ≡ Some after.0) (sym place) after.1 in
    let last : Player = record c.follow.new.self { shown = c.insert.new.self } in
    subst (λ (n : ℕ). IsPlayer plan next n last) (one_turn world next event turns turn new made)
    (keeps plan next (turns + 1) c.place_of-place.result c.push_end.new.known c.follow.new.self last now refl refl refl refl
    c.in_ok-insert.ensures.updates (c.in_ok-push_end.ensures.known next after.0 now.replay there ∙ ap known_of (sym here)))

pub returns-clause-told : goal.returns-clause-told
returns-clause-told c plan world next turns was goes =
    let event = c.args.event in
    let kept = c.take_known.new.self in
    let new : Player = record kept { replay = c.make.new.self } in
    let less = c.take_known.ensures in
    let is = keeps_less plan world turns c.place_of-place.result c.args.self.now kept was less.plan less.replay less.course less.turns less.shown in
    let turn = c.in-Some.turn in
    let made = subst (λ (o : Option TurnRecord). IsMade world event next o c.make.new.self) c.in-Some.is (c.in_ok-turn.ensures world next is.replay goes) in
    let place = c.place_of-place.ensures world made.0.node was.replay made.2.names in
    let known = others_after c.args.self.now.shown kept.shown world next event c.place_of-place.result less.shown was.known goes
    (made.2.names ∙ ap Some (sym place)) in
    let now = c.in_ok-follow.ensures.player plan next world.acts turns (left_by plan world next event turns turn kept new is made refl refl refl known) in
    let after = stands_after world next event made.0 made.2 in
    let same : c.in-Ok.node ≡ c.place_of-place.result = search rules in
    let node = same ∙ place in
    let there = subst (λ (n : ℕ). slice_get next.nodes n ≡ Some after.0) (sym node) after.1 in
    let head = add_text _ (event_members kept.turns event c.place_of-place.result
    ++ take_members (message_of world event) (was_taken (slice_get world.nodes c.place_of-place.result) (message_of world event)))
    c.new-line.ensures.items (c.in_ok-push_head.ensures world is.replay) in (
      made.0,
      made.2.is,
      made.2.before_is,
      line_so plan c.args.telling world next event made.0 turn turns kept.turns c.place_of-place.result c.in-Ok.node _ after.0.node c.taken-taken.result
          c.deref.result.now _ _ _ made.2 made.1 place node is.counted (c.in_ok-known.ensures.known world was.replay was.known) after.2
          (c.taken-taken.ensures world is.replay) (c.deref.ensures.value ∙ c.in_ok-did.ensures) head
          (c.in_ok-push_turn.ensures plan world.acts is.course) (c.in_ok-push_end.ensures.line plan next (turns + 1) after.0 now there),
    )
