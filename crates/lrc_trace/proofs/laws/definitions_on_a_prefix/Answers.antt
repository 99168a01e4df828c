use Rattle.lrc_trace.proofs.Prefixes.{interval_at-prefix, Holds-longer, Holds-shorter, Races-longer, Races-shorter, MayRead-longer, MayRead-shorter}
use Rattle.lrc_trace.proofs.laws.definitions_on_a_prefix.Goals as goal

pub returns-clause-intervals : goal.returns-clause-intervals
returns-clause-intervals c = interval_at-prefix

pub returns-clause-holders : goal.returns-clause-holders
returns-clause-holders c = λ run more n node l le. (Holds-longer run more le, Holds-shorter run more le)

pub returns-clause-races : goal.returns-clause-races
returns-clause-races c = λ run more i j lt. (Races-longer run more lt, Races-shorter run more lt)

pub returns-clause-reads : goal.returns-clause-reads
returns-clause-reads c = λ run more j word value lt. (MayRead-longer run more lt, MayRead-shorter run more lt)
