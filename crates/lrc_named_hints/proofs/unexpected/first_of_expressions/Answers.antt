use Rattle.std.proofs.Common.{[], ◌∷◌}
use Rattle.lrc_named_hints.specs.HintTable.{comparisons_row, expression_rows, negative_row, one_comparison_row, seen_of, set_in_brackets_row}
use Rattle.lrc_named_hints.proofs.Rows.{row_more, two_rows}
use Rattle.lrc_named_hints.proofs.unexpected.first_of_expressions.Goals as goal

pub returns : goal.returns
unfolding expression_rows
returns c =
    let s = seen_of c.args.fault.now in
    let so_far = two_rows (set_in_brackets_row s) (comparisons_row s) c.set_in_brackets.result c.comparisons.result c.or.result c.or.ensures c.set_in_brackets.ensures c.comparisons.ensures in
    let so_far = row_more (set_in_brackets_row s ∷ comparisons_row s ∷ []) (one_comparison_row s) c.or.result c.one_comparison.result c.or-2.result c.or-2.ensures so_far c.one_comparison.ensures in
    row_more (set_in_brackets_row s ∷ comparisons_row s ∷ one_comparison_row s ∷ []) (negative_row s) c.or-2.result c.negative.result c.or-3.result c.or-3.ensures so_far c.negative.ensures
