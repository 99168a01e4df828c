use Rattle.std.proofs.Common.{[], ◌∷◌}
use Rattle.lrc_named_hints.specs.HintTable.{block_row, bracket_rows, not_closed_row, seen_of}
use Rattle.lrc_named_hints.proofs.Rows.{two_rows}
use Rattle.lrc_named_hints.proofs.unexpected.first_of_brackets.Goals as goal

pub returns : goal.returns
unfolding bracket_rows
returns c =
    let s = seen_of c.args.fault.now in
    two_rows (not_closed_row s) (block_row s) c.not_closed.result c.block.result c.or.result c.or.ensures c.not_closed.ensures c.block.ensures
