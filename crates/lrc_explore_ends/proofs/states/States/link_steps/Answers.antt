use Rattle.std.proofs.Common.{arith}
use Rattle.lrc_orders_settling.specs.declared.step.Step.TheVariants.{Together}
use Rattle.lrc_explore_ends.proofs.Linking.{each_known, known_grown, steps_known, wider_on, within_wider}
use Rattle.lrc_explore_ends.proofs.states.States.link_steps.Goals as goal

pub link_step-requires-in-loop-node-clause-within : goal.link_step-requires-in-loop-node-clause-within
link_step-requires-in-loop-node-clause-within c =
    within_wider c.args.task.now c.args.self.now c.loop-node.self c.args.place c.requires.stepped.found c.loop-node.invariant.wider c.requires.within

pub loop-node-init : goal.loop-node-init
loop-node-init c =
    let e = c.in_ok-link_step.ensures in
    record { stepped = e.stepped; wider = e.wider; all = e.known; each = λ k lt. absurd (omega (arith, lt)) }

pub loop-node-preserved : goal.loop-node-preserved
loop-node-preserved c =
    let i = c.loop-node.invariant in
    let task = c.args.task.now in
    let old = c.loop-node.self in
    let new = c.link_step-in-loop-node.new.self in
    let e = c.in_ok-link_step-2.ensures in
    record {
      stepped = e.stepped;
      wider = wider_on i.wider e.wider;
      all = known_grown task old new c.args.place Together e.wider i.all;
      each = each_known task old new c.args.place c.loop-node.node e.wider i.each e.known;
    }

pub returns-clause-known : goal.returns-clause-known
returns-clause-known c step =
    let i = c.loop-node.invariant in
    let within = within_wider c.args.task.now c.args.self.now c.loop-node.self c.args.place c.requires.stepped.found i.wider c.requires.within in
    steps_known c.args.task.now c.loop-node.self c.args.place c.loop-node.node i.stepped.found within (omega (arith, c.loop-node-test.false)) i.all i.each step
