-- All names of the table are known.
use Rattle.std.proofs.Common.{arith}
use Rattle.std.proofs.lemmas.List.{take_all}
use Rattle.lrc_races_lines.specs.Table.{names_of}
use Rattle.lrc_races_claims.proofs.known.KnownNames.new.Goals as goal

pub returns : goal.returns
returns c = take_all c.count-known.result (names_of c.args.table) (omega (arith, c.count-known.ensures))
