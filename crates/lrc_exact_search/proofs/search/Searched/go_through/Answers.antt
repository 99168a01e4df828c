use Rattle.std.proofs.Common.{arith}
use Rattle.lrc_orders.proofs.Keeping.{item_at}
use Rattle.lrc_exact_judge.specs.Shape.{shape_of}
use Rattle.lrc_exact_search.proofs.Complete.{exact}
use Rattle.lrc_exact_search.proofs.Meeting.{acts_front, counted_more, searched_more}
use Rattle.lrc_exact_search.proofs.search.Searched.go_through.Goals as goal

pub is_too_much-requires : goal.is_too_much-requires
is_too_much-requires c =
    omega (arith, c.loop-place.invariant.counted, acts_front c.loop-place.place c.loop-place.self.runs.keys)

pub loop-place-preserved : goal.loop-place-preserved
loop-place-preserved c =
    let i = c.loop-place.invariant in
    let e = c.in_ok-visit.ensures in
    let old = c.loop-place.self in
    let new = c.visit.new.self in
    let place = c.loop-place.place in
    let few = c.is_too_much.ensures.few c.if-is_too_much.false in
    let stood = item_at old.runs.keys place (omega (arith, c.loop-place-test.true, c.len.ensures.len)) in
    record {
      within = omega (arith, c.loop-place-test.true, c.len.ensures.len, few);
      order = e.order;
      sound = e.sound;
      searched = searched_more c.args.task.now.program.now (shape_of c.args.task.now.layout) old.runs.keys new.runs.keys old.found.outcomes.keys
          new.found.outcomes.keys place e.grows e.more (omega (arith, c.loop-place-test.true, c.len.ensures.len)) i.searched e.done;
      counted = counted_more old.runs.keys new.runs.keys place stood.0 c.loop-place.acts _ e.grows stood.1 i.counted (c.acts_to-acts.ensures stood.0 stood.1);
    }

pub returns-clause-exact : goal.returns-clause-exact
returns-clause-exact c = λ notes.
    let task = c.args.task.now in
    let i = c.loop-place.invariant in
    let all = c.loop-place.self in
    exact task.program.now (shape_of task.layout) all.runs.keys all.found.outcomes.keys
    (λ k met lt at. i.searched k met (omega (arith, lt, c.loop-place-test.false, c.len.ensures.len)) at) i.order.begun all.found.runs.items i.sound notes
