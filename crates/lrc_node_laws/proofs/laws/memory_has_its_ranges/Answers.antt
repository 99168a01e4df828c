use Rattle.lrc_node_laws.proofs.Always.{ranged_at}
use Rattle.lrc_node_laws.proofs.laws.memory_has_its_ranges.Goals as goal

pub returns-clause-me : goal.returns-clause-me
returns-clause-me c = λ node r. (ranged_at node r).me

pub returns-clause-time : goal.returns-clause-time
returns-clause-time c = λ node r. (ranged_at node r).time

pub returns-clause-memory : goal.returns-clause-memory
returns-clause-memory c = λ node r. (ranged_at node r).memory

pub returns-clause-collection : goal.returns-clause-collection
returns-clause-collection c = λ node r. (ranged_at node r).present
