use Rattle.lrc_races_laws.proofs.Cuts.{one_cut}
use Rattle.lrc_races_laws.proofs.Sayings.{one_saying, one_say, not_nothing}
use Rattle.lrc_races_laws.proofs.told_laws.one_reading_of_bytes.Goals as goal

pub returns-clause-cut : goal.returns-clause-cut
returns-clause-cut c = λ bytes lines others rest left a b. one_cut a b

pub returns-clause-says : goal.returns-clause-says
returns-clause-says c = λ form line one other a b. one_saying form line one other a b

pub returns-clause-nothing : goal.returns-clause-nothing
returns-clause-nothing c = λ form line saying says none. not_nothing form line saying says none

pub returns-clause-say : goal.returns-clause-say
returns-clause-say c = λ form number lines one other a b. one_say a b
