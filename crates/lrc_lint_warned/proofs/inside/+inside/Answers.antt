use Rattle.std.proofs.Common.{◌∙◌, ap, map}
use Rattle.std.proofs.lemmas.List.{map_push}
use Rattle.lrc_program.specs.Statements.{statement_of}
use Rattle.lrc_lint_warned.proofs.Trees.{adds_if, adds_straight, adds_while, block_all, block_more, block_none}
use Rattle.lrc_lint_warned.proofs.inside.+inside.Goals as goal

pub put_block-loop-statement-init : goal.put_block-loop-statement-init
put_block-loop-statement-init t c = block_none (map (λ s. statement_of s.now) c.args.out.now.items)

pub put_block-loop-statement-preserved : goal.put_block-loop-statement-preserved
put_block-loop-statement-preserved t c =
    block_more c.args.block.now c.loop-statement.statement-index c.statement-item.result _ _ _ c.loop-statement-test.true c.statement-item.is c.loop-statement.invariant c.in_ok-put_statement.ensures

pub put_block-returns : goal.put_block-returns
put_block-returns t c = block_all c.args.block.now c.loop-statement.statement-index _ _ c.loop-statement-test.false c.loop-statement.invariant

pub put_statement-returns-in_ok-put_block-in-If : goal.put_statement-returns-in_ok-put_block-in-If
put_statement-returns-in_ok-put_block-in-If t c =
    adds_if c.put_block-in-If.result _ _ _ _ _ c.in-If.field-0 c.in-If.then c.in-If.otherwise _ _ c.in-If.is c.deref.ensures.value c.deref-in-If.ensures.value
    (ap (map (λ s. statement_of s.now)) c.in_ok-push.ensures.items ∙ map_push (λ s. statement_of s.now) c.args.out.now.items c.args.statement)
    c.in_ok-put_block-in-If.ensures c.put_block-in-If.ensures

pub put_statement-returns-in-While : goal.put_statement-returns-in-While
put_statement-returns-in-While t c =
    adds_while c.put_block-in-While.result _ _ _ _ c.in-While.field-0 c.in-While.inside _ c.in-While.is c.deref-in-While.ensures.value
    (ap (map (λ s. statement_of s.now)) c.in_ok-push.ensures.items ∙ map_push (λ s. statement_of s.now) c.args.out.now.items c.args.statement)
    c.put_block-in-While.ensures

pub put_statement-returns-in_default : goal.put_statement-returns-in_default
put_statement-returns-in_default t c =
    adds_straight _ _ c.args.statement.now c.in_default.not-If c.in_default.not-While
    (ap (map (λ s. statement_of s.now)) c.in_ok-push.ensures.items ∙ map_push (λ s. statement_of s.now) c.args.out.now.items c.args.statement)
