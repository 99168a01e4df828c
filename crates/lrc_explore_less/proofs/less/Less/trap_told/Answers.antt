use Rattle.std.proofs.Common.{◌∙◌, sym, ap, subst}
use Rattle.std.specs.Prelude.{is_none}
use Rattle.lrc_exec.specs.Follows.{nodes_of_acts}
use Rattle.lrc_explore_less.specs.Passing.{IsTrap}
use Rattle.lrc_explore_less.proofs.Enough.{never_trapping}
use Rattle.lrc_explore_less.proofs.Steps.{trap_order}
use Rattle.lrc_explore_less.proofs.less.Less.trap_told.Goals as goal

pub returns-in_default-clause-trap : goal.returns-in_default-clause-trap
returns-in_default-clause-trap c =
    never_trapping c.args.task.now c.args.self.now c.requires.less c.requires.begun c.requires.done (ap is_none (sym c.requires.trap ∙ c.in_default.is))

pub acts_into_trap-requires-clause-traps : goal.acts_into_trap-requires-clause-traps
acts_into_trap-requires-clause-traps c =
    subst (IsTrap c.args.task.now c.args.self.now.found.table.rows) (sym c.requires.trap ∙ c.in-Some.is) c.requires.less.sound.trap

pub returns-clause-trap : goal.returns-clause-trap
returns-clause-trap c =
    trap_order c.args.task.now c.in_ok-acts.acts.items c.in_ok-order.order.items c.in_ok-acts.ensures.led
    (c.in_ok-order.ensures ∙ ap nodes_of_acts c.deref.ensures.value)
