use Rattle.std.proofs.Common.{◌≡◌, ◌≤◌, ◌∙◌, List, length, ap, sym, subst}
use Rattle.std.specs.Prelude.{Some}
use Rattle.lrc_trace.specs.declared.act.Act.{Act}
use Rattle.lrc_trace.specs.Run.{arrives_before, departs_before}
use Rattle.lrc_exact.specs.Rule.{State, KeepsExact, exact_value}
use Rattle.lrc_exact_judge.specs.Shape.{shape_of}
use Rattle.lrc_exact_search.proofs.Standing.{goes_on, other_next, read_next}
use Rattle.lrc_exact_search.proofs.run.ExactRun.valued.Goals as goal

pub value-value-requires-clause-goes_on : goal.value-value-requires-clause-goes_on
value-value-requires-clause-goes_on c =
    subst (λ (xs : List Act). arrives_before xs c.args.node (length xs) ≤ departs_before xs c.args.node (length xs)) (sym c.deref.ensures.value)
    (goes_on c.args.task.now c.requires.task c.args.self.now c.requires.at c.args.node c.in-Read.word _ (c.requires.can ∙ ap Some c.in-Read.is))

pub returns-in-Read : goal.returns-in-Read
returns-in-Read c =
    let run = c.args.self.now in
    let value = c.value-value.result in
    let word = c.in-Read.word in
    let shape = shape_of run.memory.layout in
    read_next c.args.task.now c.requires.task run c.requires.at c.args.node word _ (c.requires.can ∙ ap Some c.in-Read.is) value
    (subst (λ (xs : List Act). (states : List State) → KeepsExact shape xs states → value ≡ exact_value shape xs states c.args.node (length xs) word)
    c.deref.ensures.value c.value-value.ensures)

pub returns-in_default : goal.returns-in_default
returns-in_default c =
    other_next c.args.task.now c.requires.task c.args.self.now c.requires.at c.args.node c.args.deed c.requires.can
    (λ w v is. c.in_default.not-Read w v is)
