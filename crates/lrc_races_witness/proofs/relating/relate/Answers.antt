-- The lines that are accesses are related.
use Rattle.lrc_races_trace.proofs.Positions.{At-within}
use Rattle.lrc_races_witness.specs.Relations.{first_none, second_none}
use Rattle.lrc_races_witness.proofs.Lines.{in_order}
use Rattle.lrc_races_witness.proofs.relating.relate.Goals as goal

pub returns-in_default : goal.returns-in_default
returns-in_default c = first_none c.in_default.ensures

pub returns-in_default-access_on : goal.returns-in_default-access_on
returns-in_default-access_on c =
    second_none (c.in-Some.one.position, c.in-Some.one.variable, c.in-Some.ensures.event, c.in-Some.ensures.is) c.in_default-access_on.ensures

pub relate_accesses-requires-clause-earlier : goal.relate_accesses-requires-clause-earlier
relate_accesses-requires-clause-earlier c =
    in_order c.args.events.now c.requires.by_line c.requires.ascending c.in-Some.ensures c.in-Some-access_on.ensures

pub relate_accesses-requires-clause-within : goal.relate_accesses-requires-clause-within
relate_accesses-requires-clause-within c = At-within c.in-Some-access_on.ensures.is.at
