use Rattle.lrc_lint_warned.specs.Found.{StatementAt, found_at, statement_seen}
use Rattle.lrc_lint_warned.specs.Blocks.{rounds_kind}
use Rattle.lrc_lint_warned.proofs.Lists.{flat_all, flat_more, flat_none}
use Rattle.lrc_lint_warned.proofs.blocks.uncertain_rounds.Goals as goal

pub loop-s-init : goal.loop-s-init
loop-s-init c = flat_none (λ (s : StatementAt). found_at s.at (rounds_kind s.statement)) statement_seen c.args.statements.now c.args.out.now.items

pub loop-s-preserved : goal.loop-s-preserved
loop-s-preserved c =
    flat_more (λ (s : StatementAt). found_at s.at (rounds_kind s.statement)) statement_seen c.args.statements.now c.loop-s.s-index c.s-item.result _ _ _
    c.loop-s-test.true c.s-item.is c.loop-s.invariant
    (rw c.in_ok-kind.ensures at c.in_ok-push_found.ensures)

pub returns : goal.returns
returns c =
    flat_all (λ (s : StatementAt). found_at s.at (rounds_kind s.statement)) statement_seen c.args.statements.now c.loop-s.s-index _ _
    c.loop-s-test.false c.loop-s.invariant
