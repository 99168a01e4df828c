use Rattle.std.proofs.Common.{[], ◌∷◌}
use Rattle.lrc_named_hints.specs.HintTable.{each_index_row, missing_row, no_value_row, seen_of, separator_rows}
use Rattle.lrc_named_hints.proofs.Rows.{row_more, two_rows}
use Rattle.lrc_named_hints.proofs.unexpected.first_of_separators.Goals as goal

pub returns : goal.returns
unfolding separator_rows
returns c =
    let s = seen_of c.args.fault.now in
    let so_far = two_rows (missing_row s) (no_value_row s) c.missing_semicolon.result c.no_value.result c.or.result c.or.ensures c.missing_semicolon.ensures c.no_value.ensures in
    row_more (missing_row s ∷ no_value_row s ∷ []) (each_index_row s) c.or.result c.each_index.result c.or-2.result c.or-2.ensures so_far c.each_index.ensures
