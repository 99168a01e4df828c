-- The word is longer than what is shown of it.
use Rattle.std.proofs.Common.{arith, sym}
use Rattle.std.proofs.lemmas.List.{length-take-le}
use Rattle.lrc_races_lines.proofs.cause.push_shown.Goals as goal

pub slice_bounds-extend_from_slice-end : goal.slice_bounds-extend_from_slice-end
slice_bounds-extend_from_slice-end c = sym (length-take-le 32 c.args.word.now (omega arith))
