-- What is behind a statement is behind its blocks.
use Rattle.std.proofs.Common.{◌∙◌, ap, get_or, sym}
use Rattle.lrc_lines.specs.Tasks.{behind}
use Rattle.lrc_lines.proofs.Passing.{behind_all, behind_all_more, behind_if, behind_straight, behind_while}
use Rattle.lrc_lines.proofs.way.+behind.Goals as goal

pub behind-returns-in-If : goal.behind-returns-in-If
behind-returns-in-If t c =
    c.behind_all-in-If.ensures ∙ ap (λ l. behind_all l c.behind_all.result.now) c.deref.ensures.value
    ∙ ap (behind_all c.in-If.second.items)
    (c.behind_all.ensures ∙ ap (λ l. behind_all l c.tail-inside.result.now) c.deref-in-If.ensures.value
    ∙ ap (behind_all c.in-If.first.items) c.tail-inside.ensures)
    ∙ sym (behind_if c.args.statement.now c.in-If.field-0 c.in-If.first c.in-If.second c.args.lines.now c.in-If.is)

pub behind-returns-in-While : goal.behind-returns-in-While
behind-returns-in-While t c =
    c.behind_all-in-While.ensures ∙ ap (λ l. behind_all l c.tail-inside.result.now) c.deref-in-While.ensures.value
    ∙ ap (behind_all c.in-While.body.items) c.tail-inside.ensures
    ∙ sym (behind_while c.args.statement.now c.in-While.field-0 c.in-While.body c.args.lines.now c.in-While.is)

pub behind-returns-in_default : goal.behind-returns-in_default
behind-returns-in_default t c =
    c.tail-inside.ensures ∙ sym (behind_straight c.args.statement.now c.args.lines.now c.in_default.not-If c.in_default.not-While)

pub behind_all-loop-statement-preserved : goal.behind_all-loop-statement-preserved
behind_all-loop-statement-preserved t c =
    let statements = c.args.statements.now in
    let i = c.loop-statement.statement-index in
    let item = c.statement-item.result in
    c.behind-left.ensures ∙ ap (λ s. behind s c.loop-statement.left.now) c.statement-item.is
    ∙ ap (behind (get_or statements i item)) c.loop-statement.invariant
    ∙ sym (behind_all_more statements i item c.args.lines.now c.loop-statement-test.true)
