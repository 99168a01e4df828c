use Rattle.std.proofs.Common.{◌≡◌, ◌<◌, ◌+◌, refl, subst, arith}
use Rattle.lrc_envelope.specs.declared.picker.Picker.TheVariants.{Oldest}
use Rattle.lrc_world.specs.Driven.{IsDrivenOn}
use Rattle.lrc_world.specs.Rounds.{schedule_of_rounds, at_node}
use Rattle.lrc_world.proofs.Driven.{goes-nowhere, goes-twice, fails-after, asleep-more}
use Rattle.lrc_world.proofs.rounds.Driver.run_each.Goals as goal

pub returns-in_err-run_if_ready-clause-goes : goal.returns-in_err-run_if_ready-clause-goes
returns-in_err-run_if_ready-clause-goes c = λ picker.
    let below : c.loop-node.node < c.args.nodes = omega arith in
    fails-after (schedule_of_rounds picker c.args.nodes) (at_node 0) (at_node c.loop-node.node)
    (at_node (c.loop-node.node + 1)) (at_node c.args.nodes) c.args.self.now c.loop-node.self
    c.run_if_ready.new.self c.in_err-run_if_ready.field-0.0 c.from_residual.result
    c.from_residual.ensures.1 (c.loop-node.invariant.goes picker) (c.in_err-run_if_ready.ensures.goes picker c.args.nodes below)

pub loop-node-init : goal.loop-node-init
loop-node-init c = record {
  goes = λ picker. goes-nowhere (schedule_of_rounds picker c.args.nodes) (at_node 0) c.args.self.now;
  more = omega arith;
  still = λ s. (refl, λ n lt. absurd (omega (arith, lt)));
}

pub loop-node-preserved : goal.loop-node-preserved
loop-node-preserved c =
    let below : c.loop-node.node < c.args.nodes = omega arith in
    let more = (c.in_ok-run_if_ready.ensures.goes Oldest c.args.nodes below).more in
    record {
      goes = λ picker.
          goes-twice (schedule_of_rounds picker c.args.nodes) (at_node 0) (at_node c.loop-node.node)
          (at_node (c.loop-node.node + 1)) c.args.self.now c.loop-node.self c.run_if_ready.new.self
          (c.loop-node.invariant.goes picker) (c.in_ok-run_if_ready.ensures.goes picker c.args.nodes below);
      more = omega (arith, c.loop-node.invariant.more, more);
      still = asleep-more c.args.self.now c.loop-node.self c.run_if_ready.new.self c.loop-node.node c.loop-node.invariant.more more
          c.loop-node.invariant.still c.in_ok-run_if_ready.ensures.still;
    }

pub returns-clause-goes : goal.returns-clause-goes
returns-clause-goes c = λ picker.
    let all : c.loop-node.node ≡ c.args.nodes = omega arith in
    subst (λ n. IsDrivenOn (schedule_of_rounds picker c.args.nodes) (at_node 0) (at_node n) c.args.self.now c.loop-node.self) all (c.loop-node.invariant.goes picker)
