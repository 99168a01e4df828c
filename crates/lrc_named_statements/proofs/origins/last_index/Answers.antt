-- One index more.
use Rattle.std.proofs.Common.{arith, ap, ◌+◌, ◌∙◌}
use Rattle.lrc_named_tree.specs.View.{expressions_of}
use Rattle.lrc_named_statements.specs.Statements.{last_index}
use Rattle.lrc_named_statements.proofs.Indices.{index_past, index_step}
use Rattle.lrc_named_statements.proofs.origins.last_index.Goals as goal

pub loop-index-preserved : goal.loop-index-preserved
loop-index-preserved c =
    index_step c.args.indices.now c.loop-index.index-index c.index-item.result c.loop-index.last c.in_ok-next.next
    (last_index c.args.at (expressions_of c.args.indices.now)) c.loop-index-test.true c.index-item.is
    (c.in_ok-next.ensures ∙ ap (λ n. n + 1) c.last-end.ensures) c.loop-index.invariant

pub returns : goal.returns
returns c =
    index_past c.args.indices.now c.loop-index.index-index c.loop-index.last (last_index c.args.at (expressions_of c.args.indices.now))
    (omega (arith, c.loop-index-test.false)) c.loop-index.invariant
