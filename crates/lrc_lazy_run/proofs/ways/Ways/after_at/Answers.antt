use Rattle.std.proofs.Common.{arith}
use Rattle.lrc_orders.proofs.Keeping.{item_in}
use Rattle.lrc_lazy_search.proofs.Making.{can_below}
use Rattle.lrc_lazy_search.proofs.Searched.{reached_fit}
use Rattle.lrc_lazy_run.proofs.ways.Ways.after_at.Goals as goal

pub after-requires-clause-fit : goal.after-requires-clause-fit
after-requires-clause-fit c =
    let sought = c.args.sought.now in
    let keys = c.args.self.now.states.keys in
    let key = c.index-as_slice-place.result in
    let there = item_in keys c.as_slice.result.now c.args.place key c.as_slice.ensures.keys c.requires.within c.index-as_slice-place.is in
    reached_fit sought.program.now sought.flat key c.args.place c.requires.ways.task.words (c.requires.ways.kept.reached c.args.place key there)

pub after-requires-clause-can : goal.after-requires-clause-can
after-requires-clause-can c =
    let keys = c.args.self.now.states.keys in
    let key = c.index-as_slice-place.result in
    let there = item_in keys c.as_slice.result.now c.args.place key c.as_slice.ensures.keys c.requires.within c.index-as_slice-place.is in
    c.requires.can key there

pub after-requires-clause-room : goal.after-requires-clause-room
after-requires-clause-room c =
    let keys = c.args.self.now.states.keys in
    let key = c.index-as_slice-place.result in
    let there = item_in keys c.as_slice.result.now c.args.place key c.as_slice.ensures.keys c.requires.within c.index-as_slice-place.is in
    let few = (c.requires.ways.kept.reached c.args.place key there).counted c.args.node in
    omega (arith, few, c.requires.within, c.requires.ways.small)

pub after-requires-clause-node : goal.after-requires-clause-node
after-requires-clause-node c =
    let sought = c.args.sought.now in
    let keys = c.args.self.now.states.keys in
    let key = c.index-as_slice-place.result in
    let there = item_in keys c.as_slice.result.now c.args.place key c.as_slice.ensures.keys c.requires.within c.index-as_slice-place.is in
    can_below sought.flat key c.args.node c.args.deed
    (reached_fit sought.program.now sought.flat key c.args.place c.requires.ways.task.words (c.requires.ways.kept.reached c.args.place key there)) (c.requires.can key there)

pub returns : goal.returns
returns c =
    let sought = c.args.sought.now in
    let keys = c.args.self.now.states.keys in
    let key = c.index-as_slice-place.result in
    let there = item_in keys c.as_slice.result.now c.args.place key c.as_slice.ensures.keys c.requires.within c.index-as_slice-place.is in
    let reached = c.requires.ways.kept.reached c.args.place key there in
    record {
      key = key;
      there = there;
      steps = c.in_ok-next.ensures.steps;
      valid = c.in_ok-next.ensures.state;
      neat = c.in_ok-next.ensures.neat reached.neat;
      below = can_below sought.flat key c.args.node c.args.deed (reached_fit sought.program.now sought.flat key c.args.place c.requires.ways.task.words reached)
          (c.requires.can key there);
    }
