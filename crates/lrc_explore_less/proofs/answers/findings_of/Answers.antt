use Rattle.std.proofs.Common.{false}
use Rattle.std.proofs.lemmas.Result.{IfOk-weaker}
use Rattle.lrc_orders.proofs.Faults.{fault_says}
use Rattle.lrc_explore.proofs.Answering.{fault_of_task}
use Rattle.lrc_explore.proofs.ManyStates.{too_long}
use Rattle.lrc_explore.proofs.Seeking.{of_step}
use Rattle.lrc_explore_less.specs.Met.{IsSearched, IsTaskSearched}
use Rattle.lrc_explore_less.proofs.Answering.{is_searched_of}
use Rattle.lrc_explore_less.proofs.answers.findings_of.Goals as goal

pub all_findings-requires-clause-none : goal.all_findings-requires-clause-none
all_findings-requires-clause-none c = c.none-less.ensures c.in_ok-task.task c.in_ok-task.ensures.nodes

pub returns-clause-faults : goal.returns-clause-faults
returns-clause-faults c =
    let t = c.in_ok-task.ensures in
    let task = c.in_ok-task.task in
    fault_says c.all_findings.result
    (λ fault is. fault_of_task task c.args.code.now c.args.nodes c.args.most false false fault t.task t.program t.flat t.most t.looked t.noting
    (of_step task false fault is)) c.all_findings.ensures.faults

pub returns-clause-too_long : goal.returns-clause-too_long
returns-clause-too_long c =
    let t = c.in_ok-task.ensures in
    fault_says c.all_findings.result
    (λ fault is e. too_long c.in_ok-task.task c.args.code.now c.args.nodes c.args.most t.program t.nodes t.looked (is.many e))
    c.all_findings.ensures.faults

pub returns-clause-findings : goal.returns-clause-findings
returns-clause-findings c =
    let t = c.in_ok-task.ensures in
    let task = c.in_ok-task.task in
    IfOk-weaker c.all_findings.result (IsTaskSearched task) (IsSearched c.args.code.now c.args.nodes c.args.most)
    (λ answer is. is_searched_of task c.args.code.now c.args.nodes c.args.most t.task t.program t.flat t.most t.looked t.noting t.nodes answer is)
    c.all_findings.ensures.findings
