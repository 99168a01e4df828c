use Rattle.std.proofs.Common.{[]}
use Rattle.lrc_program.specs.Statements.{statement_of}
use Rattle.lrc_lint_warned.specs.Inside.{nodes_of}
use Rattle.lrc_lint_warned.proofs.Lists.{flat_all, flat_more}
use Rattle.lrc_lint_warned.proofs.places.nodes_of_all.Goals as goal

pub loop-s-preserved : goal.loop-s-preserved
loop-s-preserved c =
    flat_more nodes_of (λ s. statement_of s.now) c.args.statements.now c.loop-s.s-index c.s-item.result [] _ _
    c.loop-s-test.true c.s-item.is c.loop-s.invariant c.in_ok-put_nodes_of.ensures

pub returns : goal.returns
returns c =
    flat_all nodes_of (λ s. statement_of s.now) c.args.statements.now c.loop-s.s-index [] _ c.loop-s-test.false c.loop-s.invariant
