use Rattle.std.proofs.Common.{[], ◌∷◌}
use Rattle.lrc_named_hints.specs.HintTable.{behind_else_row, keyword_as_name_row, keyword_rows, keyword_set_row, late_row, not_row, seen_of, stray_else_row}
use Rattle.lrc_named_hints.proofs.Rows.{row_more, two_rows}
use Rattle.lrc_named_hints.proofs.unexpected.first_of_keywords.Goals as goal

pub returns : goal.returns
unfolding keyword_rows
returns c =
    let s = seen_of c.args.fault.now in
    let so_far = two_rows (behind_else_row s) (stray_else_row s) c.behind_else.result c.stray_else.result c.or.result c.or.ensures c.behind_else.ensures c.stray_else.ensures in
    let so_far = row_more (behind_else_row s ∷ stray_else_row s ∷ []) (late_row s) c.or.result c.late.result c.or-2.result c.or-2.ensures so_far c.late.ensures in
    let so_far = row_more (behind_else_row s ∷ stray_else_row s ∷ late_row s ∷ []) (not_row s) c.or-2.result c.inner_not.result c.or-3.result c.or-3.ensures so_far c.inner_not.ensures in
    let so_far = row_more (behind_else_row s ∷ stray_else_row s ∷ late_row s ∷ not_row s ∷ []) (keyword_as_name_row s) c.or-3.result c.keyword_as_name.result c.or-4.result c.or-4.ensures so_far c.keyword_as_name.ensures in
    row_more (behind_else_row s ∷ stray_else_row s ∷ late_row s ∷ not_row s ∷ keyword_as_name_row s ∷ []) (keyword_set_row s) c.or-4.result c.keyword_set.result c.or-5.result c.or-5.ensures so_far c.keyword_set.ensures
