use Rattle.std.proofs.Common.{◌∙◌, rules, tests, Bor}
use Rattle.std.proofs.lemmas.Iterator.{YieldsList-from_slice}
use Rattle.std.proofs.lemmas.Iterator.Consumers.{YieldsList-from_filter, count_from_yields_List}
use Rattle.std.proofs.lemmas.List.Sums.{length-filter}
use Rattle.lrc_program.specs.declared.Statement.{Statement}
use Rattle.lrc_program.specs.Statements.{statement_of}
use Rattle.lrc_lint_warned.specs.Blocks.{is_barrier}
use Rattle.lrc_lint_warned.proofs.Lists.{count_seen}
use Rattle.lrc_lint_warned.proofs.blocks.count_barriers.Goals as goal

pub returns : goal.returns
returns c =
    count_from_yields_List c.filter.result _ c.count.ensures.ran
    (YieldsList-from_filter _ (λ (s : Bor Statement). is_barrier (statement_of s.now)) (YieldsList-from_slice c.args.statements.now (cc)) c.filter.ensures.closure
    (λ x b q k. search (rules, tests)))
    ∙ length-filter (λ (s : Bor Statement). is_barrier (statement_of s.now)) c.args.statements.now
    ∙ count_seen (λ (s : Bor Statement). statement_of s.now) is_barrier c.args.statements.now
