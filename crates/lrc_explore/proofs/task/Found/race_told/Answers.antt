use Rattle.std.proofs.Common.{◌∙◌, ◌++◌, ◌∷◌, [], ap}
use Rattle.lrc_exec.specs.Follows.{nodes_of_acts}
use Rattle.lrc_explore.proofs.Answering.{race_answer}
use Rattle.lrc_explore.proofs.task.Found.race_told.Goals as goal

pub returns-clause-answer : goal.returns-clause-answer
returns-clause-answer c =
    let p = c.args.p in
    let q = c.args.q in
    race_answer c.args.task.now c.args.self.now c.args.place p q c.in_ok-acts.acts.items c.in_ok-order.order.items c.in_ok-acts.ensures.led
    c.requires.meeting (c.in_ok-order.ensures ∙ ap (λ l. nodes_of_acts l ++ p ∷ q ∷ []) c.deref.ensures.value)
