-- An idle word alone has no parenthesis.
use Rattle.lrc_races_lines.specs.Line.{alone}
use Rattle.lrc_races_lines.proofs.reading.operation_of.Goals as goal

pub returns-in-None : goal.returns-in-None
returns-in-None c = alone (c.is_idle_word.ensures.0 c.if-is_idle_word.true)
