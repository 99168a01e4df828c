use Rattle.std.proofs.Common.{ℕ, false, subst}
use Rattle.std.specs.Prelude.{IfOk}
use Rattle.std.proofs.lemmas.Result.{IfOk-weaker}
use Rattle.lrc_program.specs.declared.Program.{Program}
use Rattle.lrc_orders.proofs.Faults.{fault_says}
use Rattle.lrc_explore.specs.Answers.{FitsSettled}
use Rattle.lrc_explore.proofs.Answering.{fault_of_task}
use Rattle.lrc_explore.proofs.ManyStates.{too_long}
use Rattle.lrc_explore.proofs.Seeking.{of_step}
use Rattle.lrc_explore_ends.specs.Answers.{GoesThrough, IsEndAnswer, IsTaskEndAnswer}
use Rattle.lrc_explore_ends.proofs.Answering.{end_answer_of}
use Rattle.lrc_explore_ends.proofs.answers.ends_of_code.Goals as goal

pub returns-clause-faults : goal.returns-clause-faults
returns-clause-faults c =
    let t = c.in_ok-task.ensures in
    let task = c.in_ok-task.task in
    fault_says c.search.result
    (λ fault is. fault_of_task task c.args.code.now c.args.nodes c.args.most false c.args.races fault t.task t.program t.flat t.most t.looked t.noting
    (of_step task c.args.races fault is)) c.search.ensures.faults

pub returns-clause-too_long : goal.returns-clause-too_long
returns-clause-too_long c =
    let t = c.in_ok-task.ensures in
    fault_says c.search.result
    (λ fault is e. too_long c.in_ok-task.task c.args.code.now c.args.nodes c.args.most t.program t.nodes t.looked (is.many e))
    c.search.ensures.faults

pub returns-clause-answer : goal.returns-clause-answer
returns-clause-answer c =
    let t = c.in_ok-task.ensures in
    let task = c.in_ok-task.task in
    IfOk-weaker c.search.result (IsTaskEndAnswer task c.args.races) (IsEndAnswer c.args.code.now c.args.nodes c.args.most c.args.races)
    (λ verdict is. end_answer_of task c.args.code.now c.args.nodes c.args.most t.task t.program t.flat t.most t.looked t.noting t.nodes c.args.races verdict is)
    c.search.ensures.answer

pub returns-clause-fits : goal.returns-clause-fits
returns-clause-fits c =
    let t = c.in_ok-task.ensures in
    let task = c.in_ok-task.task in
    let P : Program → ℕ → ℕ → Type 0 = λ p n m. IfOk c.search.result (λ verdict. GoesThrough verdict → FitsSettled p n m) in
    subst (λ p. P p c.args.nodes c.args.most) t.program
    (subst (λ n. P task.program.now n c.args.most) t.nodes (subst (P task.program.now task.flat.nodes) t.most c.search.ensures.fits))
