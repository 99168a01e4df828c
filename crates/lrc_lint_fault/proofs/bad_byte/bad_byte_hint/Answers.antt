use Rattle.std.proofs.Common.{[], ◌∷◌, ◌++◌, ◌∙◌, ap}
use Rattle.lrc_lint_fault.specs.HintTable.{bad_byte_rows, byte_found, byte_rows, colon_row, first_row, header_row, order_mark_row, seen_of}
use Rattle.lrc_lint_fault.proofs.Rows.{one_row, row_more, rows_more}
use Rattle.lrc_lint_fault.proofs.bad_byte.bad_byte_hint.Goals as goal

pub returns : goal.returns
unfolding bad_byte_rows
returns c =
    let s = seen_of c.args.fault.now in
    let marked = order_mark_row s ∷ [] in
    let of_byte = marked ++ byte_rows (byte_found s) in
    let one =
    rows_more marked (byte_rows (byte_found s)) c.order_mark.result c.hint_of_byte.result c.or.result c.or.ensures
    (one_row (order_mark_row s) c.order_mark.result c.order_mark.ensures)
    (c.hint_of_byte.ensures ∙ ap (λ byte. first_row (byte_rows byte)) c.byte_found.ensures) in
    let two = row_more of_byte (header_row s) c.or.result c.header.result c.or-2.result c.or-2.ensures one c.header.ensures in
    row_more (of_byte ++ header_row s ∷ []) (colon_row s) c.or-2.result c.colon.result c.or-3.result c.or-3.ensures two c.colon.ensures
