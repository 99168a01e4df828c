use Rattle.std.proofs.Common.{arith}
use Rattle.lrc_lazy_search.proofs.Ahead.{ahead_counts, ahead_state}
use Rattle.lrc_lazy_run.proofs.Striding.{along_on, along_still}
use Rattle.lrc_lazy_run.proofs.along.go_along.Goals as goal

pub loop-step-init : goal.loop-step-init
loop-step-init c = record { along = along_still c.args.sought.now c.args.state.now c.args.acts.now.items; neat = λ neat. neat }

pub step_along-requires-clause-state : goal.step_along-requires-clause-state
step_along-requires-clause-state c = ahead_state c.requires.state c.loop-step.invariant.along.ahead

pub step_along-requires-clause-room : goal.step_along-requires-clause-room
step_along-requires-clause-room c = λ n.
    let few = c.requires.room n in
    let same = ahead_counts c.loop-step.invariant.along.ahead n in
    omega (arith, few, same)

pub returns-then-not-branch-clause-along : goal.returns-then-not-branch-clause-along
returns-then-not-branch-clause-along c = along_on c.loop-step.invariant.along c.in_ok-step_along.ensures.along

pub returns-then-is_again-clause-along : goal.returns-then-is_again-clause-along
returns-then-is_again-clause-along c = along_on c.loop-step.invariant.along c.in_ok-step_along.ensures.along

pub loop-step-preserved : goal.loop-step-preserved
loop-step-preserved c = record {
  along = along_on c.loop-step.invariant.along c.in_ok-step_along.ensures.along;
  neat = λ neat. c.in_ok-step_along.ensures.neat (c.loop-step.invariant.neat neat);
}
