-- The trace ends before the line, or the line is no access.
use Rattle.std.proofs.Common.{arith}
use Rattle.lrc_races_claims.specs.Truth.{behind, idle}
use Rattle.lrc_races_claims.proofs.access.access_on.Goals as goal

pub returns-then-last-line : goal.returns-then-last-line
returns-then-last-line c = behind c.if-last-line.true

pub returns-in-None : goal.returns-in-None
returns-in-None c = idle (omega arith) c.in-None.ensures
