use Rattle.std.proofs.Common.{rules, tests, ◌∙◌, Bor, ◌||◌}
use Rattle.std.proofs.lemmas.Iterator.{YieldsList-from_slice}
use Rattle.std.proofs.lemmas.Iterator.Search.{any_from_yields_List}
use Rattle.lrc_program.specs.Statements.{Statement as Tree, statement_of}
use Rattle.lrc_program.specs.declared.Statement.{Statement}
use Rattle.lrc_lint_warned.specs.Blocks.{is_acquire, is_barrier}
use Rattle.lrc_lint_warned.proofs.Lists.{any_seen}
use Rattle.lrc_lint_warned.proofs.blocks.some_learns.Goals as goal

pub returns : goal.returns
returns c =
    any_from_yields_List (λ (x : Bor Statement). is_acquire (statement_of x.now) || is_barrier (statement_of x.now)) _ _ c.any.result c.any.ensures.ran
    (YieldsList-from_slice c.args.statements.now cc) (λ x b q k. search (rules, tests))
    ∙ any_seen (λ (s : Bor Statement). statement_of s.now) (λ (s : Tree). is_acquire s || is_barrier s) c.args.statements.now
