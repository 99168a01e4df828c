use Rattle.lrc_world.specs.Rounds.{schedule_of_rounds, at_node}
use Rattle.lrc_world.proofs.Driven.{fails-after}
use Rattle.lrc_world.proofs.rounds.Driver.drive.Goals as goal

pub returns-in_err-round-clause-goes : goal.returns-in_err-round-clause-goes
returns-in_err-round-clause-goes c =
    fails-after (schedule_of_rounds c.args.picker c.args.nodes) (at_node 0) (at_node 0) (at_node 0) (at_node 0) c.args.self.now c.rounds.self c.round.new.self
    c.in_err-round.field-0.0 c.from_residual.result c.from_residual.ensures.1 c.rounds.invariant.goes c.in_err-round.ensures.goes
