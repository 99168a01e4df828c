use Rattle.std.proofs.Common.{arith, subst, sym}
use Rattle.lrc_lazy_search.specs.declared.state.Seen.{Seen}
use Rattle.lrc_lazy_search.specs.Searching.{still}
use Rattle.lrc_lazy_search.proofs.Ahead.{Since, ahead_on, ahead_state, ahead_counts, turned}
use Rattle.lrc_lazy_search.proofs.Making.{fit_of}
use Rattle.lrc_lazy_search.proofs.state.LazyState.go_far.Goals.{then-step-again+in_ok-earlier-2, else-step-again}
use Rattle.lrc_lazy_search.proofs.state.LazyState.go_far.Goals as goal

pub loop-step-init : goal.loop-step-init
loop-step-init c = record {
  ahead = still;
  neat = λ neat. neat;
  since = record { mid = c.args.self.now; goes = still; was = c.in_ok-earlier.ensures; further = still };
}

pub step_ahead-requires-clause-fit : goal.step_ahead-requires-clause-fit
step_ahead-requires-clause-fit c = fit_of c.args.flat.now c.loop-step.self (ahead_state c.requires.state c.loop-step.invariant.ahead)

pub step_ahead-requires-clause-room : goal.step_ahead-requires-clause-room
step_ahead-requires-clause-room c = λ n.
    let few = c.requires.room n in
    let same = ahead_counts c.loop-step.invariant.ahead n in
    omega (arith, few, same)

pub returns-then-not-branch-clause-ahead : goal.returns-then-not-branch-clause-ahead
returns-then-not-branch-clause-ahead c = ahead_on c.loop-step.invariant.ahead c.in_ok-step_ahead.ensures.ahead

pub returns-then-is_again-clause-ahead : goal.returns-then-is_again-clause-ahead
returns-then-is_again-clause-ahead c = ahead_on c.loop-step.invariant.ahead c.in_ok-step_ahead.ensures.ahead

pub returns-then-is_again-clause-turns : goal.returns-then-is_again-clause-turns
returns-then-is_again-clause-turns c = λ yes.
    let s = c.loop-step.invariant.since in
    turned c.args.flat.now c.args.self.now s.mid c.loop-step.self c.step_ahead.new.self c.loop-step.earlier s.goes s.was s.further
    (c.in_ok-step_ahead.ensures.made c.if-not-branch.false) (c.is_again.ensures c.if-is_again.true)

pub loop-step-preserved : goal.loop-step-preserved
loop-step-preserved c =
    let flat = c.args.flat.now in
    let key = c.args.self.now in
    let new = c.step_ahead.new.self in
    let i = c.loop-step.invariant in
    let now = ahead_on i.ahead c.in_ok-step_ahead.ensures.ahead in
    record {
      ahead = now;
      neat = λ neat. c.in_ok-step_ahead.ensures.neat (i.neat neat);
      since = elim c.if-step-again.branch [
        | then-step-again+in_ok-earlier-2 w ↦
            subst (λ (s : Seen). Since flat key new s) (sym w.earlier-is)
            (record { mid = new; goes = now; was = w.in_ok-earlier-2.ensures; further = still })
        | else-step-again w ↦
            subst (λ (s : Seen). Since flat key new s) (sym w.earlier-is)
            (record { mid = i.since.mid; goes = i.since.goes; was = i.since.was; further = ahead_on i.since.further c.in_ok-step_ahead.ensures.ahead })
      ];
    }
