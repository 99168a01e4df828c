use Rattle.std.proofs.Common.{[], ◌∷◌, ◌++◌, ◌∙◌, ap}
use Rattle.lrc_lint_fault.specs.HintTable.{first_row}
use Rattle.lrc_named_hints.specs.HintTable.{bad_byte_rows, byte_found, byte_rows, colon_row, seen_of}
use Rattle.lrc_named_hints.proofs.Rows.{row_more}
use Rattle.lrc_named_hints.proofs.bad_byte.bad_byte_hint.Goals as goal

pub returns : goal.returns
unfolding bad_byte_rows
returns c =
    let s = seen_of c.args.fault.now in
    row_more (byte_rows (byte_found s)) (colon_row s) c.hint_of_byte.result c.colon.result c.or.result c.or.ensures
    (c.hint_of_byte.ensures ∙ ap (λ byte. first_row (byte_rows byte)) c.byte_found.ensures) c.colon.ensures
