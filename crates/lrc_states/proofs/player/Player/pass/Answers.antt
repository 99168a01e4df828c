use Rattle.std.proofs.Common.{ℕ, Option, refl, subst}
use Rattle.lrc_protocol.specs.Turn.{TurnRecord}
use Rattle.lrc_replay.specs.Replays.{IsMade}
use Rattle.lrc_replay.proofs.Coursing.{on_ok}
use Rattle.lrc_states.specs.declared.player.Player.{Player}
use Rattle.lrc_states.specs.Players.{IsPlayer}
use Rattle.lrc_states.proofs.Keeping.{none_kept}
use Rattle.lrc_states.proofs.Playing.{left_by, one_turn, passed_over}
use Rattle.lrc_states.proofs.player.Player.pass.Goals as goal

pub returns-in-Some-clause-player : goal.returns-in-Some-clause-player
returns-in-Some-clause-player c plan world next turns is goes =
    let old = c.args.self.now in
    let new : Player = record old { replay = c.make.new.self; shown = c.clear.new.self } in
    let made = subst (λ (o : Option TurnRecord). IsMade world c.args.event next o c.make.new.self) c.in-Some.is (c.in_ok-turn.ensures world next is.replay goes) in
    on_ok c.follow.result
    (c.follow.ensures.player plan next world.acts turns
    (left_by plan world next c.args.event turns c.in-Some.turn old new is made refl refl refl (none_kept new.shown next c.clear.ensures.empty)))
    (λ p. subst (λ (n : ℕ). IsPlayer plan next n c.follow.new.self) (one_turn world next c.args.event turns c.in-Some.turn new made) p)

pub returns-in-None-clause-player : goal.returns-in-None-clause-player
returns-in-None-clause-player c plan world next turns is goes =
    let old = c.args.self.now in
    let new : Player = record old { replay = c.make.new.self; shown = c.clear.new.self } in
    let made = subst (λ (o : Option TurnRecord). IsMade world c.args.event next o c.make.new.self) c.in-None.is (c.in_ok-turn.ensures world next is.replay goes) in
    passed_over plan world next c.args.event turns old new is made refl refl refl (none_kept new.shown world c.clear.ensures.empty)
