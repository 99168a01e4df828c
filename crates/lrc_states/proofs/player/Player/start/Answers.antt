use Rattle.std.proofs.Common.{refl}
use Rattle.lrc_protocol.specs.Run.{fresh_world}
use Rattle.lrc_states.proofs.Keeping.{none_kept}
use Rattle.lrc_states.proofs.player.Player.start.Goals as goal

pub returns-clause-player : goal.returns-clause-player
returns-clause-player c =
    let world = fresh_world c.args.plan.code.now c.args.plan.nodes c.args.options.now in
    record {
      plan_is = refl;
      replay = c.in_ok-start.ensures;
      course = c.in_ok-start-2.ensures.course;
      counted = refl;
      known = none_kept c.new.result world c.new.ensures.empty;
    }
