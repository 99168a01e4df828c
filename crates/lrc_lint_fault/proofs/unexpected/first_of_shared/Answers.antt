use Rattle.std.proofs.Common.{[], ◌∷◌}
use Rattle.lrc_lint_fault.specs.HintTable.{missing_row, seen_of, shared_read_row, shared_rows, shared_write_row}
use Rattle.lrc_lint_fault.proofs.Rows.{row_more, two_rows}
use Rattle.lrc_lint_fault.proofs.unexpected.first_of_shared.Goals as goal

pub returns : goal.returns
unfolding shared_rows
returns c =
    let s = seen_of c.args.fault.now in
    let so_far = two_rows (shared_read_row s) (missing_row s) c.shared_read.result c.missing_semicolon.result c.or.result c.or.ensures c.shared_read.ensures c.missing_semicolon.ensures in
    row_more (shared_read_row s ∷ missing_row s ∷ []) (shared_write_row s) c.or.result c.shared_write.result c.or-2.result c.or-2.ensures so_far c.shared_write.ensures
