use Rattle.std.proofs.Common.{arith}
use Rattle.lrc_lazy_search.specs.Searching.{still}
use Rattle.lrc_orders.proofs.Faults.{ok_says}
use Rattle.std.proofs.lemmas.Result.{IfOk-weaker}
use Rattle.lrc_lazy_search.proofs.Ahead.{ahead_on, ahead_state, ahead_counts, turns_on}
use Rattle.lrc_lazy_search.proofs.Making.{fit_of}
use Rattle.lrc_lazy_search.proofs.state.LazyState.go_on.Goals as goal

pub loop-init : goal.loop-init
loop-init c = record { ahead = still; neat = λ neat. neat }

pub step_ahead-requires-clause-fit : goal.step_ahead-requires-clause-fit
step_ahead-requires-clause-fit c = fit_of c.args.flat.now c.loop.self (ahead_state c.requires.state c.loop.invariant.ahead)

pub step_ahead-requires-clause-room : goal.step_ahead-requires-clause-room
step_ahead-requires-clause-room c = λ n.
    let few = c.requires.room n in
    let same = ahead_counts c.loop.invariant.ahead n in
    omega (arith, few, same)

pub returns-then-not-branch : goal.returns-then-not-branch
returns-then-not-branch c = record {
  ahead = ahead_on c.loop.invariant.ahead c.in_ok-step_ahead.ensures.ahead;
  neat = λ neat. c.in_ok-step_ahead.ensures.neat (c.loop.invariant.neat neat);
  turns = λ never. cc;
}

pub loop-preserved : goal.loop-preserved
loop-preserved c = record {
  ahead = ahead_on c.loop.invariant.ahead c.in_ok-step_ahead.ensures.ahead;
  neat = λ neat. c.in_ok-step_ahead.ensures.neat (c.loop.invariant.neat neat);
}

pub go_far-requires-clause-state : goal.go_far-requires-clause-state
go_far-requires-clause-state c = ahead_state c.requires.state c.loop.invariant.ahead

pub go_far-requires-clause-room : goal.go_far-requires-clause-room
go_far-requires-clause-room c = λ n.
    let few = c.requires.room n in
    let same = ahead_counts c.loop.invariant.ahead n in
    omega (arith, few, same)

pub returns-clause-ahead : goal.returns-clause-ahead
returns-clause-ahead c = ok_says c.go_far.result (λ goes. ahead_on c.loop.invariant.ahead goes) c.go_far.ensures.ahead

pub returns-clause-neat : goal.returns-clause-neat
returns-clause-neat c = ok_says c.go_far.result (λ neat before. neat (c.loop.invariant.neat before)) c.go_far.ensures.neat

pub returns-clause-turns : goal.returns-clause-turns
returns-clause-turns c = IfOk-weaker c.go_far.result _ _ (λ turns comes yes. turns_on c.loop.invariant.ahead (comes yes)) c.go_far.ensures.turns
