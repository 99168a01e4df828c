-- The text grows by each statement.
use Rattle.std.proofs.Common.{◌≡◌, ◌++◌, ◌∙◌}
use Rattle.std.specs.Prelude.{codes}
use Rattle.lrc_named_core.specs.View.{statement_of}
use Rattle.lrc_named_text.specs.Statements.{statement_text}
use Rattle.lrc_named_text.proofs.Growing.{block_step, choice_pushed, loop_pushed, well}
use Rattle.lrc_named_text.proofs.statements.+statements.Goals as goal

pub push_block-loop-statement-preserved : goal.push_block-loop-statement-preserved
push_block-loop-statement-preserved t c =
    block_step c.args.lines.now c.args.indent.now c.args.statements.now c.loop-statement.statement-index c.statement-item.result
    c.args.text.now.items c.loop-statement.text.items c.push_statement.new.text.items c.loop-statement-test.true c.statement-item.is
    c.loop-statement.invariant c.in_ok-push_statement.ensures

pub push_statement-returns-in_ok-push_block-in-If-2 : goal.push_statement-returns-in_ok-push_block-in-If-2
push_statement-returns-in_ok-push_block-in-If-2 t c =
    let lines = c.args.lines.now in
    let indent = c.args.indent.now in
    let old = c.args.text.now.items in
    let new = c.push_close.new.text.items in
    let three = c.push_block-in-If.new.text.items in
    well (new ≡ three ++ (indent ++ codes "}\n")) (new ≡ old ++ statement_text lines indent (statement_of c.args.statement.now)) c.push_close.result
    (λ closed. choice_pushed lines indent c.in-If.origin c.in-If.condition c.in-If.then c.in-If.otherwise c.args.statement.now
    old c.push_head.new.text.items c.push_block.new.text.items c.push_else.new.text.items three new
    c.deref.result.now c.deref-in-If-3.result.now c.deref-in-If.result.now c.deref-in-If-2.result.now c.deref-in-If-4.result.now
    c.in-If.is (c.deref.ensures.value ∙ c.in_ok-more-in-If.ensures) (c.deref-in-If-3.ensures.value ∙ c.in_ok-more-in-If.ensures)
    c.deref-in-If.ensures.value c.deref-in-If-2.ensures.value c.deref-in-If-4.ensures.value
    c.in_ok-push_head-in-If.ensures c.in_ok-push_block-in-If.ensures c.in_ok-push_else-in-If.ensures c.in_ok-push_block-in-If-2.ensures closed)
    c.push_close.ensures

pub push_statement-returns-in_ok-push_block-in-While : goal.push_statement-returns-in_ok-push_block-in-While
push_statement-returns-in_ok-push_block-in-While t c =
    let lines = c.args.lines.now in
    let indent = c.args.indent.now in
    let old = c.args.text.now.items in
    let new = c.push_close-in-While.new.text.items in
    let one = c.push_block-in-While.new.text.items in
    well (new ≡ one ++ (indent ++ codes "}\n")) (new ≡ old ++ statement_text lines indent (statement_of c.args.statement.now)) c.push_close-in-While.result
    (λ closed. loop_pushed lines indent c.in-While.origin c.in-While.condition c.in-While.inside c.args.statement.now
    old c.push_head-in-While.new.text.items one new c.deref-in-While.result.now c.deref-in-While-2.result.now
    c.in-While.is (c.deref-in-While.ensures.value ∙ c.in_ok-more-in-While.ensures) c.deref-in-While-2.ensures.value
    c.in_ok-push_head-in-While.ensures c.in_ok-push_block-in-While.ensures closed)
    c.push_close-in-While.ensures
