use Rattle.lrc_orders.proofs.Faults.{fault_up}
use Rattle.lrc_orders_table.proofs.RowLaws.{row_within}
use Rattle.lrc_explore.specs.Answers.{IsFault}
use Rattle.lrc_explore.proofs.Reaching.{settled_key}
use Rattle.lrc_explore.proofs.Seeking.{fault_of}
use Rattle.lrc_explore.proofs.Trapping.{led_into}
use Rattle.lrc_explore_less.proofs.less.Less.acts_through.Goals as goal

pub acts_to-requires-clause-within : goal.acts_to-requires-clause-within
acts_to-requires-clause-within c =
    let t = c.requires.traps in
    row_within c.args.self.now.found.table.rows c.args.origin.parent t.0 t.1

pub noted-requires : goal.noted-requires
noted-requires c = let t = c.requires.traps in (t.0, t.1)

pub taken-requires-clause-settled : goal.taken-requires-clause-settled
taken-requires-clause-settled c =
    settled_key c.args.task.now c.in_ok-key.key (c.requires.sound.found.reached.each c.args.origin.parent c.in_ok-key.key c.in_ok-key.ensures)

pub returns-clause-led : goal.returns-clause-led
returns-clause-led c =
    led_into c.args.task.now c.args.self.now.found c.args.origin c.in_ok-key.key c.requires.sound.found c.in_ok-key.ensures c.requires.traps c.in_ok-acts.acts.items
    c.taken.new.acts.items c.in_ok-_after._after c.in_ok-acts.ensures.led c.in_ok-_after.ensures.taken

pub returns-in_err-_after-clause-faults : goal.returns-in_err-_after-clause-faults
returns-in_err-_after-clause-faults c =
    let task = c.args.task.now in
    let r = c.requires.sound.found.reached.each c.args.origin.parent c.in_ok-key.key c.in_ok-key.ensures in
    fault_up c.from_residual-in_err-_after.result c.in_err-_after.field-0.0 (IsFault task) c.from_residual-in_err-_after.ensures.1
    (fault_of task c.in_ok-key.key c.in_err-_after.field-0.0 r c.in_err-_after.ensures.faults)
