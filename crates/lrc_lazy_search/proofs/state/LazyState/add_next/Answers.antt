use Rattle.std.proofs.Common.{[], ◌∙◌, ap, arith, length}
use Rattle.std.specs.Prelude.{slice_get}
use Rattle.lrc_trace.proofs.Positions.{slice_get-seam}
use Rattle.lrc_exec.specs.States.{plain_at}
use Rattle.lrc_orders.proofs.Counting.{step_counts}
use Rattle.lrc_lazy.specs.Standing.{with_memory}
use Rattle.lrc_lazy_search.specs.Searching.{to_one, to_turn}
use Rattle.lrc_lazy_search.proofs.Adding.{next_push}
use Rattle.lrc_lazy_search.proofs.Neat.{count_push, neat_push}
use Rattle.lrc_lazy_search.proofs.state.LazyState.add_next.Goals as goal

pub go_ahead-requires-clause-room : goal.go_ahead-requires-clause-room
go_ahead-requires-clause-room c = λ n.
    let flat = c.args.flat.now in
    let before = c.args.self.now in
    let after = c.in_ok-next.next in
    let makes = c.in_ok-next.ensures.steps.makes in
    let few = c.requires.room n in
    let more = step_counts (with_memory (plain_at flat before.state) makes.memory) (with_memory (plain_at flat after.state) makes.later)
    c.args.node n c.args.deed makes.made in
    omega (arith, few, more)

pub returns-then-branch-clause-has : goal.returns-then-branch-clause-has
returns-then-branch-clause-has c = record {
  after = c.in_ok-next.next;
  steps = c.in_ok-next.ensures.steps;
  leads = to_turn (c.in_ok-go_ahead.ensures.turns c.if-branch.true);
}

pub returns-clause-sound : goal.returns-clause-sound
returns-clause-sound c =
    next_push c.args.flat.now c.args.self.now c.go_ahead.new.self c.args.all.now.items c.push.new.self.items c.in_ok-push.ensures.items c.requires.sound
    (record {
      node = c.args.node;
      deed = c.args.deed;
      after = c.in_ok-next.next;
      steps = c.in_ok-next.ensures.steps;
      valid = c.in_ok-next.ensures.state;
      goes = c.in_ok-go_ahead.ensures.ahead;
    })

pub returns-clause-has : goal.returns-clause-has
returns-clause-has c =
    let ahead = c.go_ahead.new.self in
    let old = c.args.all.now.items in
    record {
      after = c.in_ok-next.next;
      steps = c.in_ok-next.ensures.steps;
      leads = to_one ahead c.in_ok-go_ahead.ensures.ahead
          (length old, ap (λ l. slice_get l (length old)) c.in_ok-push.ensures.items ∙ slice_get-seam old ahead []);
    }

pub returns-clause-neat : goal.returns-clause-neat
returns-clause-neat c = λ here before.
    neat_push c.args.flat.now c.go_ahead.new.self c.args.all.now.items c.push.new.self.items c.in_ok-push.ensures.items before
    (c.in_ok-go_ahead.ensures.neat (c.in_ok-next.ensures.neat here))

pub returns-clause-left : goal.returns-clause-left
returns-clause-left c = λ some before.
    count_push c.args.flat.now c.go_ahead.new.self c.args.all.now.items c.push.new.self.items c.in_ok-push.ensures.items before
    (c.in_ok-go_ahead.ensures.left some)
