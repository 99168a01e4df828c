use Rattle.std.specs.Prelude.{map}
use Rattle.lrc_protocol.specs.Pages.{Need}
use Rattle.lrc_protocol.specs.Node.{needs_of}
use Rattle.lrc_node_laws.proofs.Always.{needed_at, reaching_at}
use Rattle.lrc_node_laws.proofs.Awaited.{ascends-pairs}
use Rattle.lrc_node_laws.proofs.laws.needs_fit_the_memory.Goals as goal

pub returns-clause-each : goal.returns-clause-each
returns-clause-each c = λ node r. (needed_at node r).each

pub returns-clause-apart : goal.returns-clause-apart
returns-clause-apart c = λ node r. ascends-pairs (map (λ (need : Need). need.page) (needs_of node.mail.wait)) (needed_at node r).apart

pub returns-clause-kept : goal.returns-clause-kept
returns-clause-kept c = λ node r. (needed_at node r).kept

pub returns-clause-access : goal.returns-clause-access
returns-clause-access c = λ node r. reaching_at node r
