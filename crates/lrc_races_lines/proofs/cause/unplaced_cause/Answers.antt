-- The second field.
use Rattle.lrc_races_lines.specs.Cause.{in_operation, up_to_end}
use Rattle.lrc_races_lines.proofs.cause.unplaced_cause.Goals as goal

pub returns-in-Some : goal.returns-in-Some
returns-in-Some c = λ feeds none. in_operation (up_to_end c.requires) c.in-Some.ensures

pub returns-in-None : goal.returns-in-None
returns-in-None c = λ feeds none. let (kind, target, spells) = c.in-None.ensures c.requires feeds in absurd (none kind target spells)
