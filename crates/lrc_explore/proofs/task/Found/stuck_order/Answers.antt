use Rattle.std.proofs.Common.{◌∙◌, ◌++◌, [], ℕ, List, ap}
use Rattle.lrc_exec.specs.Follows.{nodes_of_acts}
use Rattle.lrc_orders_table.proofs.RowLaws.{row_within}
use Rattle.lrc_explore.proofs.Answering.{stuck_answer}
use Rattle.lrc_explore.proofs.task.Found.stuck_order.Goals as goal

abbrev nobody : List ℕ
nobody = []

pub acts_to-requires-clause-within : goal.acts_to-requires-clause-within
acts_to-requires-clause-within c = row_within c.args.self.now.table.rows c.args.place c.requires.stuck.0 c.requires.stuck.1

pub returns-clause-gets : goal.returns-clause-gets
returns-clause-gets c =
    stuck_answer c.args.task.now c.args.self.now c.args.place c.in_ok-acts.acts.items c.in_ok-order.order.items c.requires.found c.in_ok-acts.ensures.led
    c.requires.stuck (c.in_ok-order.ensures ∙ ap (λ l. nodes_of_acts l ++ nobody) c.deref.ensures.value)
