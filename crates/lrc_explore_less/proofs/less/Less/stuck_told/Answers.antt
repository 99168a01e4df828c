use Rattle.std.proofs.Common.{◌∙◌, ap, length, subst}
use Rattle.lrc_exec.specs.Follows.{nodes_of_acts}
use Rattle.lrc_orders_table.proofs.RowLaws.{row_within}
use Rattle.lrc_explore_less.specs.Enough.{IsStuckOpen}
use Rattle.lrc_explore_less.proofs.Enough.{never_sticks}
use Rattle.lrc_explore_less.proofs.Steps.{stuck_order}
use Rattle.lrc_explore_less.proofs.less.Less.stuck_told.Goals as goal

pub returns-in_default-clause-stuck : goal.returns-in_default-clause-stuck
returns-in_default-clause-stuck c =
    let task = c.args.task.now in
    let less = c.args.self.now in
    never_sticks task less c.requires.less c.requires.begun c.requires.done
    (subst (IsStuckOpen task less (length less.opens.items)) c.in_default.is c.requires.halted)

pub acts_to-requires-clause-within : goal.acts_to-requires-clause-within
acts_to-requires-clause-within c =
    let less = c.args.self.now in
    let h = subst (IsStuckOpen c.args.task.now less (length less.opens.items)) c.in-Some.is c.requires.halted in
    row_within less.found.table.rows c.in-Some.place h.0 h.1

pub returns-clause-stuck : goal.returns-clause-stuck
returns-clause-stuck c =
    let task = c.args.task.now in
    let less = c.args.self.now in
    let h = subst (IsStuckOpen task less (length less.opens.items)) c.in-Some.is c.requires.halted in
    stuck_order task less.found c.in-Some.place h.0 c.in_ok-acts.acts.items c.in_ok-order.order.items c.requires.less.sound.found h.1 h.2
    c.in_ok-acts.ensures.led (c.in_ok-order.ensures ∙ ap nodes_of_acts c.deref.ensures.value)
