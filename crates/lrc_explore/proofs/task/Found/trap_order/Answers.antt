use Rattle.std.proofs.Common.{◌∙◌, ◌++◌, [], ℕ, List, ap}
use Rattle.lrc_exec.specs.Follows.{nodes_of_acts}
use Rattle.lrc_explore.proofs.Answering.{trap_answer}
use Rattle.lrc_explore.proofs.task.Found.trap_order.Goals as goal

abbrev nobody : List ℕ
nobody = []

pub returns-clause-traps : goal.returns-clause-traps
returns-clause-traps c =
    trap_answer c.args.task.now c.in_ok-acts.acts.items c.in_ok-order.order.items c.in_ok-acts.ensures.led
    (c.in_ok-order.ensures ∙ ap (λ l. nodes_of_acts l ++ nobody) c.deref.ensures.value)
