use Rattle.lrc_world.specs.Rounds.{schedule_of_rounds, at_node, delivering}
use Rattle.lrc_world.proofs.Driven.{fails-after, goes-after, goes-nowhere, over_or_not, closes_round}
use Rattle.lrc_world.proofs.rounds.Driver.round.Goals as goal

pub returns-in_err-run_each-clause-goes : goal.returns-in_err-run_each-clause-goes
returns-in_err-run_each-clause-goes c =
    fails-after (schedule_of_rounds c.args.picker c.args.nodes) (at_node 0) (at_node 0) (at_node c.args.nodes) (at_node 0)
    c.args.self.now c.args.self.now c.run_each.new.self c.in_err-run_each.field-0.0 c.from_residual.result
    c.from_residual.ensures.1 (goes-nowhere (schedule_of_rounds c.args.picker c.args.nodes) (at_node 0) c.args.self.now)
    (c.in_err-run_each.ensures.goes c.args.picker)

pub returns-clause-goes : goal.returns-clause-goes
returns-clause-goes c =
    closes_round c.args.picker c.args.nodes (at_node 0) c.args.self.now c.deliver_each.new.self c.deliver_each.result
    (goes-after (schedule_of_rounds c.args.picker c.args.nodes) (at_node 0) (at_node c.args.nodes) (delivering 0)
    c.args.self.now c.run_each.new.self c.deliver_each.new.self c.deliver_each.result
    (c.in_ok-run_each.ensures.goes c.args.picker) (c.deliver_each.ensures.goes c.args.nodes))

pub returns-clause-over : goal.returns-clause-over
returns-clause-over c =
    over_or_not (schedule_of_rounds c.args.picker c.args.nodes) (at_node 0) (at_node c.args.nodes) (delivering 0)
    c.args.self.now c.run_each.new.self c.deliver_each.new.self c.args.nodes c.deliver_each.result (c.in_ok-run_each.ensures.goes c.args.picker)
    (c.deliver_each.ensures.goes c.args.nodes) c.in_ok-run_each.ensures.still c.deliver_each.ensures.still
