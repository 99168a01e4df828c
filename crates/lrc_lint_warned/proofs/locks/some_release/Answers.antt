use Rattle.std.proofs.Common.{rules, tests, ◌∙◌}
use Rattle.std.proofs.lemmas.Iterator.{YieldsList-from_slice}
use Rattle.std.proofs.lemmas.Iterator.Search.{any_from_yields_List}
use Rattle.lrc_program.specs.Statements.{statement_of}
use Rattle.lrc_lint_warned.specs.declared.found.StatementAt as code_statement
use Rattle.lrc_lint_warned.specs.Found.{StatementAt, statement_seen}
use Rattle.lrc_lint_warned.specs.Locks.{may_release}
use Rattle.lrc_lint_warned.proofs.Lists.{any_seen}
use Rattle.lrc_lint_warned.proofs.locks.some_release.Goals as goal

pub returns : goal.returns
returns c =
    any_from_yields_List (λ (x : code_statement.StatementAt). may_release c.args.lock (statement_of x.statement.now)) _ _ c.any.result c.any.ensures.ran
    (YieldsList-from_slice c.args.statements.now cc) (λ x b q k. search (rules, tests))
    ∙ any_seen (statement_seen) (λ (s : StatementAt). may_release c.args.lock s.statement) c.args.statements.now
