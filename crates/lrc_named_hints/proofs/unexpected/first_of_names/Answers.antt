use Rattle.std.proofs.Common.{[], ◌∷◌}
use Rattle.lrc_named_hints.specs.HintTable.{compound_row, declaration_row, else_if_row, lock_row, name_rows, no_keyword_row, seen_of, update_row}
use Rattle.lrc_named_hints.proofs.Rows.{row_more, two_rows}
use Rattle.lrc_named_hints.proofs.unexpected.first_of_names.Goals as goal

pub returns : goal.returns
unfolding name_rows
returns c =
    let s = seen_of c.args.fault.now in
    let so_far = two_rows (declaration_row s) (lock_row s) c.declaration.result c.lock.result c.or.result c.or.ensures c.declaration.ensures c.lock.ensures in
    let so_far = row_more (declaration_row s ∷ lock_row s ∷ []) (else_if_row s) c.or.result c.else_if.result c.or-2.result c.or-2.ensures so_far c.else_if.ensures in
    let so_far = row_more (declaration_row s ∷ lock_row s ∷ else_if_row s ∷ []) (update_row s) c.or-2.result c.update.result c.or-3.result c.or-3.ensures so_far c.update.ensures in
    let so_far = row_more (declaration_row s ∷ lock_row s ∷ else_if_row s ∷ update_row s ∷ []) (compound_row s) c.or-3.result c.compound.result c.or-4.result c.or-4.ensures so_far c.compound.ensures in
    row_more (declaration_row s ∷ lock_row s ∷ else_if_row s ∷ update_row s ∷ compound_row s ∷ []) (no_keyword_row s) c.or-4.result c.no_keyword.result c.or-5.result c.or-5.ensures so_far c.no_keyword.ensures
