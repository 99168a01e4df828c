use Rattle.std.proofs.Common.{[], ◌∷◌}
use Rattle.lrc_named_hints.specs.HintTable.{comment_row, function_row, habit_rows, lock_name_row, loop_row, seen_of}
use Rattle.lrc_named_hints.proofs.Rows.{row_more, two_rows}
use Rattle.lrc_named_hints.proofs.unexpected.first_of_habits.Goals as goal

pub returns : goal.returns
unfolding habit_rows
returns c =
    let s = seen_of c.args.fault.now in
    let so_far = two_rows (comment_row s) (loop_row s) c.comment.result c.other_loop.result c.or.result c.or.ensures c.comment.ensures c.other_loop.ensures in
    let so_far = row_more (comment_row s ∷ loop_row s ∷ []) (lock_name_row s) c.or.result c.lock_name.result c.or-2.result c.or-2.ensures so_far c.lock_name.ensures in
    row_more (comment_row s ∷ loop_row s ∷ lock_name_row s ∷ []) (function_row s) c.or-2.result c.function.result c.or-3.result c.or-3.ensures so_far c.function.ensures
