use Rattle.std.proofs.Common.{ap, sym, ◌∙◌}
use Rattle.std.specs.Prelude.{option_map}
use Rattle.lrc_lint_warned.specs.Found.{StatementAt, statement_seen}
use Rattle.lrc_lint_warned.specs.Names.{sets}
use Rattle.lrc_lint_warned.proofs.Lists.{find_here, find_later, find_nowhere}
use Rattle.lrc_lint_warned.proofs.names.first_set.Goals as goal

pub loop-s-preserved : goal.loop-s-preserved
loop-s-preserved c =
    c.loop-s.invariant
    ∙ find_later statement_seen (λ (s : StatementAt). sets c.args.name s.statement) c.args.statements.now c.loop-s.s-index c.s-item.result c.loop-s-test.true c.s-item.is
    (sym c.sets.ensures ∙ c.if-sets.false)

pub returns-then-sets : goal.returns-then-sets
returns-then-sets c =
    sym (ap (option_map (λ (x : StatementAt). x.at))
    (c.loop-s.invariant
    ∙ find_here statement_seen (λ (s : StatementAt). sets c.args.name s.statement) c.args.statements.now c.loop-s.s-index c.s-item.result c.loop-s-test.true c.s-item.is
    (sym c.sets.ensures ∙ c.if-sets.true)))

pub returns : goal.returns
returns c =
    sym (ap (option_map (λ (x : StatementAt). x.at))
    (c.loop-s.invariant ∙ find_nowhere statement_seen (λ (s : StatementAt). sets c.args.name s.statement) c.args.statements.now c.loop-s.s-index c.loop-s-test.false))
