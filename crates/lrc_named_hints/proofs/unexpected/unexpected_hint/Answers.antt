use Rattle.std.proofs.Common.{◌++◌}
use Rattle.lrc_named_hints.specs.HintTable.{bracket_rows, expression_rows, habit_rows, keyword_rows, name_rows, seen_of, separator_rows, statement_rows, unexpected_rows}
use Rattle.lrc_named_hints.proofs.Rows.{rows_more}
use Rattle.lrc_named_hints.proofs.unexpected.unexpected_hint.Goals as goal

pub returns : goal.returns
unfolding unexpected_rows
returns c =
    let s = seen_of c.args.fault.now in
    let so_far = rows_more (habit_rows s) (name_rows s) c.first_of_habits.result c.first_of_names.result c.or.result c.or.ensures c.first_of_habits.ensures c.first_of_names.ensures in
    let so_far = rows_more (habit_rows s ++ name_rows s) (keyword_rows s) c.or.result c.first_of_keywords.result c.or-2.result c.or-2.ensures so_far c.first_of_keywords.ensures in
    let so_far = rows_more ((habit_rows s ++ name_rows s) ++ keyword_rows s) (statement_rows s) c.or-2.result c.first_of_statements.result c.or-3.result c.or-3.ensures so_far c.first_of_statements.ensures in
    let so_far = rows_more (((habit_rows s ++ name_rows s) ++ keyword_rows s) ++ statement_rows s) (separator_rows s) c.or-3.result c.first_of_separators.result c.or-4.result c.or-4.ensures so_far c.first_of_separators.ensures in
    let so_far = rows_more ((((habit_rows s ++ name_rows s) ++ keyword_rows s) ++ statement_rows s) ++ separator_rows s) (expression_rows s) c.or-4.result c.first_of_expressions.result c.or-5.result c.or-5.ensures so_far c.first_of_expressions.ensures in
    rows_more (((((habit_rows s ++ name_rows s) ++ keyword_rows s) ++ statement_rows s) ++ separator_rows s) ++ expression_rows s) (bracket_rows s) c.or-5.result c.first_of_brackets.result c.or-6.result c.or-6.ensures so_far c.first_of_brackets.ensures
