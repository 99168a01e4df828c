use Rattle.lrc_lazy_search.proofs.Visiting.{item_of, take_one, taken_none}
use Rattle.lrc_lazy_search.proofs.search.Searched.add_all.Goals as goal

pub loop-state-init : goal.loop-state-init
loop-state-init c = taken_none c.args.task.now.flat c.args.self.now c.args.states.items c.requires.distinct

pub add-requires-clause-distinct : goal.add-requires-clause-distinct
add-requires-clause-distinct c = c.loop-state.invariant.adds.distinct

pub add-requires-clause-state : goal.add-requires-clause-state
add-requires-clause-state c =
    let i = c.loop-state.invariant in
    let from = item_of c.args.task.now.flat c.args.self.now c.loop-state.self c.args.states.items c.loop-state.states.items c.pop.new.self.items
    c.in-Some.state c.in-Some.ensures.items i in
    (c.requires.reached from.0 c.in-Some.state from.1).valid

pub add-requires-clause-neat : goal.add-requires-clause-neat
add-requires-clause-neat c =
    let i = c.loop-state.invariant in
    let from = item_of c.args.task.now.flat c.args.self.now c.loop-state.self c.args.states.items c.loop-state.states.items c.pop.new.self.items
    c.in-Some.state c.in-Some.ensures.items i in
    (c.requires.reached from.0 c.in-Some.state from.1).neat

pub loop-state-preserved : goal.loop-state-preserved
loop-state-preserved c =
    take_one c.args.task.now.flat c.args.self.now c.loop-state.self c.add.new.self c.args.states.items c.loop-state.states.items c.pop.new.self.items
    c.in-Some.state c.in-Some.ensures.items c.loop-state.invariant c.in_ok-add.ensures
