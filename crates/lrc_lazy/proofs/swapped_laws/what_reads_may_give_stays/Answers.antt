use Rattle.lrc_lazy.proofs.Both.{read_both, lazily_both}
use Rattle.lrc_lazy.proofs.swapped_laws.what_reads_may_give_stays.Goals as goal

pub returns-clause-each : goal.returns-clause-each
returns-clause-each c = λ nodes front first second rest ws m i j word value at. read_both nodes front first second rest ws m i j word value at

pub returns-clause-all : goal.returns-clause-all
returns-clause-all c = λ nodes front first second rest ws m. lazily_both nodes front first second rest ws m
