use Rattle.lrc_wire.proofs.Envelopes.{cut_short, longer_long}
use Rattle.lrc_wire.proofs.laws.a_part_is_short_and_more_is_long.Goals as goal

pub returns-clause-short : goal.returns-clause-short
returns-clause-short c = cut_short

pub returns-clause-long : goal.returns-clause-long
returns-clause-long c = longer_long
