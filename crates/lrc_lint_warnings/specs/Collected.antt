-- All that is warned of in a program, by the places of tokens.
use Rattle.std.specs.Prelude.{ℕ, List, [], ◌++◌}
use Rattle.lrc_lang.specs.Token.{Token}
use Rattle.lrc_program.specs.Statements.{Block}
use Rattle.lrc_program.specs.Tree.{ProgramTree}
use Rattle.lrc_lint_warned.specs.declared.found.Found.{Found}
use Rattle.lrc_lint_warned.specs.Access.{no_such_lock, no_such_word}
use Rattle.lrc_lint_warned.specs.Blocks.{learning_nothing, uncertain_rounds, unchanged_conditions, uneven_barriers}
use Rattle.lrc_lint_warned.specs.Found.{NodeAt, StatementAt}
use Rattle.lrc_lint_warned.specs.Held.{Path, held_already, held_at_barrier, not_held, paths}
use Rattle.lrc_lint_warned.specs.Locks.{never_released}
use Rattle.lrc_lint_warned.specs.Names.{never_read, never_set}
use Rattle.lrc_lint_warned.specs.Operations.{below_zero, division_by_zero}
use Rattle.lrc_lint_warned.specs.Places.{nodes_at, statements_at}
use Rattle.lrc_lint_warned.specs.Words.{never_written}

-- behind these, what is warned of names and operations, of words and locks, and of choices and loops
abbrev pub with_nodes : List Found → List NodeAt → List StatementAt → List Found
with_nodes old nodes statements = old ++ never_set nodes statements ++ never_read nodes statements ++ division_by_zero nodes ++ below_zero nodes

abbrev pub with_statements : List Found → List StatementAt → ℕ → ℕ → List Found
with_statements old statements words locks =
    old ++ no_such_word words statements ++ no_such_lock locks statements ++ never_written words statements ++ never_released locks statements

abbrev pub with_held : List Found → List StatementAt → List Path → ℕ → List Found
with_held old statements all locks =
    old ++ held_already locks statements all ++ not_held locks statements all ++ held_at_barrier locks statements all

abbrev pub with_blocks : List Found → List StatementAt → List Found
with_blocks old statements =
    old ++ uneven_barriers statements ++ uncertain_rounds statements ++ unchanged_conditions statements ++ learning_nothing statements

abbrev pub all_of : List NodeAt → List StatementAt → Block → ℕ → ℕ → List Found
all_of nodes statements b words locks =
    with_blocks (with_held (with_statements (with_nodes [] nodes statements) statements words locks) statements (paths [] b) locks) statements

-- all that is warned of in a program of these tokens
abbrev pub found_in : ProgramTree → List Token → List Found
found_in p tokens = all_of (nodes_at tokens p.statements) (statements_at tokens p.statements) p.statements p.words p.locks
