use Rattle.std.proofs.Common.{false, true}
use Rattle.std.proofs.lemmas.Result.{IfOk-weaker}
use Rattle.lrc_orders.proofs.Faults.{fault_says}
use Rattle.lrc_explore.proofs.Answering.{fault_of_task}
use Rattle.lrc_explore.proofs.ManyStates.{too_long}
use Rattle.lrc_explore.proofs.Seeking.{of_step}
use Rattle.lrc_explore_less.specs.Met.{IsExplored, IsTaskExplored}
use Rattle.lrc_explore_less.proofs.Answering.{is_explored_of}
use Rattle.lrc_explore_less.proofs.answers.explore_code.Goals as goal

pub answer-requires-clause-none : goal.answer-requires-clause-none
answer-requires-clause-none c = c.none-less.ensures c.in_ok-task.task c.in_ok-task.ensures.nodes

pub returns-clause-faults : goal.returns-clause-faults
returns-clause-faults c =
    let t = c.in_ok-task.ensures in
    let task = c.in_ok-task.task in
    fault_says c.answer.result
    (λ fault is. fault_of_task task c.args.code.now c.args.nodes c.args.most false true fault t.task t.program t.flat t.most t.looked t.noting
    (of_step task true fault is)) c.answer.ensures.faults

pub returns-clause-too_long : goal.returns-clause-too_long
returns-clause-too_long c =
    let t = c.in_ok-task.ensures in
    fault_says c.answer.result
    (λ fault is e. too_long c.in_ok-task.task c.args.code.now c.args.nodes c.args.most t.program t.nodes t.looked (is.many e))
    c.answer.ensures.faults

pub returns-clause-answer : goal.returns-clause-answer
returns-clause-answer c =
    let t = c.in_ok-task.ensures in
    let task = c.in_ok-task.task in
    IfOk-weaker c.answer.result (IsTaskExplored task) (IsExplored c.args.code.now c.args.nodes c.args.most)
    (λ answer is. is_explored_of task c.args.code.now c.args.nodes c.args.most t.task t.program t.flat t.most t.looked t.noting t.nodes answer is)
    c.answer.ensures.answer
