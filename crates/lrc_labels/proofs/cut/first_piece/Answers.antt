use Rattle.std.proofs.Common.{rules}
use Rattle.lrc_labels.specs.Cut.{divides}
use Rattle.lrc_labels.proofs.Cuts.{cut_found, cut_none}
use Rattle.lrc_labels.proofs.cut.first_piece.Goals as goal

pub returns-in-Some : goal.returns-in-Some
returns-in-Some c = cut_found (divides c.args.divider) c.args.text.now c.in-Some.at (search rules)

pub returns-in-None : goal.returns-in-None
returns-in-None c = cut_none (divides c.args.divider) c.args.text.now (search rules)
