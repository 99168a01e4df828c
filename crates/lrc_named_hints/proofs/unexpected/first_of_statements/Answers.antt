use Rattle.std.proofs.Common.{[], ◌∷◌}
use Rattle.lrc_named_hints.specs.HintTable.{no_brace_row, open_brace_row, seen_of, semicolon_row, shared_name_row, statement_rows}
use Rattle.lrc_named_hints.proofs.Rows.{row_more, two_rows}
use Rattle.lrc_named_hints.proofs.unexpected.first_of_statements.Goals as goal

pub returns : goal.returns
unfolding statement_rows
returns c =
    let s = seen_of c.args.fault.now in
    let so_far = two_rows (semicolon_row s) (no_brace_row s) c.semicolon.result c.no_brace.result c.or.result c.or.ensures c.semicolon.ensures c.no_brace.ensures in
    let so_far = row_more (semicolon_row s ∷ no_brace_row s ∷ []) (open_brace_row s) c.or.result c.open_brace.result c.or-2.result c.or-2.ensures so_far c.open_brace.ensures in
    row_more (semicolon_row s ∷ no_brace_row s ∷ open_brace_row s ∷ []) (shared_name_row s) c.or-2.result c.shared_name.result c.or-3.result c.or-3.ensures so_far c.shared_name.ensures
