use Rattle.std.proofs.Common.{[], ◌∷◌, ◌++◌, ◌∙◌, ap}
use Rattle.lrc_lint_fault.specs.HintTable.{bracket_rows, comment_row, expression_rows, first_row, header_row, keyword_rows, name_rows, opening_name}
use Rattle.lrc_lint_fault.specs.HintTable.{seen_of, shared_rows, statement_rows, unexpected_rows}
use Rattle.lrc_lint_fault.proofs.Rows.{rows_more, two_rows}
use Rattle.lrc_lint_fault.proofs.unexpected.unexpected_hint.Goals as goal

pub returns : goal.returns
unfolding unexpected_rows
returns c =
    let s = seen_of c.args.fault.now in
    let text = comment_row s ∷ header_row s ∷ [] in
    let names = name_rows s (opening_name s) in
    let named = text ++ names in
    let worded = named ++ keyword_rows s in
    let stated = worded ++ statement_rows s in
    let shared = stated ++ shared_rows s in
    let valued = shared ++ expression_rows s in
    let one = two_rows (comment_row s) (header_row s) c.comment.result c.header.result c.or.result c.or.ensures c.comment.ensures c.header.ensures in
    let two =
    rows_more text names c.or.result c.first_behind_name.result c.or-2.result c.or-2.ensures one
    (c.first_behind_name.ensures ∙ ap (λ opening. first_row (name_rows s opening)) c.opening_name.ensures) in
    let three =
    rows_more named (keyword_rows s) c.or-2.result c.first_of_keywords.result c.or-3.result c.or-3.ensures two c.first_of_keywords.ensures in
    let four =
    rows_more worded (statement_rows s) c.or-3.result c.first_of_statements.result c.or-4.result c.or-4.ensures three c.first_of_statements.ensures in
    let five = rows_more stated (shared_rows s) c.or-4.result c.first_of_shared.result c.or-5.result c.or-5.ensures four c.first_of_shared.ensures in
    let six =
    rows_more shared (expression_rows s) c.or-5.result c.first_of_expressions.result c.or-6.result c.or-6.ensures five c.first_of_expressions.ensures in
    rows_more valued (bracket_rows s) c.or-6.result c.first_of_brackets.result c.or-7.result c.or-7.ensures six c.first_of_brackets.ensures
