use Rattle.std.proofs.Common.{◌∙◌, ap, subst, sym}
use Rattle.lrc_exec.specs.Follows.{nodes_of_acts}
use Rattle.lrc_orders_ends.specs.Ends.{CannotEnd}
use Rattle.lrc_explore_ends.specs.Lost.{IsFirstLost}
use Rattle.lrc_explore_ends.proofs.Standing.{every_order_ends, this_cannot_end}
use Rattle.lrc_explore_ends.proofs.states.States.lost_told.Goals as goal

pub returns-in_default-clause-lost : goal.returns-in_default-clause-lost
returns-in_default-clause-lost c =
    every_order_ends c.args.task.now c.args.self.now c.requires.all c.requires.some
    (subst (IsFirstLost c.args.task.now c.args.self.now) c.in_default.is c.in_ok-place.ensures)

pub acts_to-requires-clause-found : goal.acts_to-requires-clause-found
acts_to-requires-clause-found c = c.requires.all.stepped.found

pub acts_to-requires-clause-within : goal.acts_to-requires-clause-within
acts_to-requires-clause-within c = (subst (IsFirstLost c.args.task.now c.args.self.now) c.in-Some.is c.in_ok-place.ensures).0

pub returns-clause-lost : goal.returns-clause-lost
returns-clause-lost c =
    let task = c.args.task.now in
    let states = c.args.self.now in
    let first = subst (IsFirstLost task states) c.in-Some.is c.in_ok-place.ensures in
    subst (CannotEnd task.program.now task.flat.nodes) (sym (c.in_ok-order.ensures ∙ ap nodes_of_acts c.deref.ensures.value))
    (this_cannot_end task states c.requires.all c.in-Some.place c.in_ok-acts.acts.items c.in_ok-acts.ensures.led first.1)
