use Rattle.std.proofs.Common.{ℕ, false, true, subst}
use Rattle.std.specs.Prelude.{◌↔◌}
use Rattle.lrc_program.specs.declared.Program.{Program}
use Rattle.lrc_orders.specs.Outcome.{HasOutcome, IsOutcome}
use Rattle.lrc_orders.proofs.Faults.{fault_up}
use Rattle.lrc_explore.specs.Answers.{IsFaultOf}
use Rattle.lrc_explore.proofs.Answering.{fault_of_task}
use Rattle.lrc_explore_less.proofs.answers.outcomes_of.Goals as goal

pub returns-in_err-ended-clause-faults : goal.returns-in_err-ended-clause-faults
returns-in_err-ended-clause-faults c =
    let t = c.in_ok-task.ensures in
    fault_up c.from_residual-in_err-ended.result c.in_err-ended.field-0.0 (IsFaultOf c.args.code.now c.args.nodes c.args.most true false)
    c.from_residual-in_err-ended.ensures.1
    (fault_of_task c.in_ok-task.task c.args.code.now c.args.nodes c.args.most true false c.in_err-ended.field-0.0 t.task t.program t.flat t.most t.looked t.noting
    c.in_err-ended.ensures.faults)

pub returns-clause-exact : goal.returns-clause-exact
returns-clause-exact c = λ notes.
    let t = c.in_ok-task.ensures in
    let keys = c.in_ok-ended.ended.outcomes.keys in
    subst (λ (p : Program). HasOutcome keys notes ↔ IsOutcome p c.args.nodes notes) t.program
    (subst (λ (n : ℕ). HasOutcome keys notes ↔ IsOutcome c.in_ok-task.task.program.now n notes) t.nodes (c.in_ok-ended.ensures.ended.exact notes))
