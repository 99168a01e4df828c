use Rattle.std.proofs.Common.{ℕ, true, false, subst}
use Rattle.std.specs.Prelude.{◌↔◌}
use Rattle.lrc_program.specs.declared.Program.{Program}
use Rattle.lrc_orders.specs.Outcome.{HasOutcome, IsOutcome}
use Rattle.lrc_explore.proofs.Answering.{fault_of_task}
use Rattle.lrc_explore.proofs.answers.outcomes_of.Goals as goal

pub returns-clause-faults : goal.returns-clause-faults
returns-clause-faults c =
    let t = c.in_ok-task.ensures in
    fault_of_task c.in_ok-task.task c.args.code.now c.args.nodes c.args.most true false c.in-Err.fault t.task t.program t.flat t.most t.looked t.noting
    c.in-Err.ensures.faults

pub all_outcomes-all-requires-clause-found : goal.all_outcomes-all-requires-clause-found
all_outcomes-all-requires-clause-found c = c.none-found.ensures.found c.in_ok-task.task c.in_ok-task.ensures.nodes

pub returns-in-Ok-clause-exact : goal.returns-in-Ok-clause-exact
returns-in-Ok-clause-exact c = λ notes.
    let t = c.in_ok-task.ensures in
    let keys = c.all_outcomes-all.new.outcomes.keys in
    subst (λ (p : Program). HasOutcome keys notes ↔ IsOutcome p c.args.nodes notes) t.program
    (subst (λ (n : ℕ). HasOutcome keys notes ↔ IsOutcome c.in_ok-task.task.program.now n notes) t.nodes (c.in-Ok.ensures.exact notes))
