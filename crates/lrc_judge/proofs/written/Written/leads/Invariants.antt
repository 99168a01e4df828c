-- The writes of the nodes so far lead.
use Rattle.std.proofs.Common.{List}
use Rattle.lrc_trace.specs.declared.act.Act.{Act}
use Rattle.lrc_judge.specs.Written.{AllLead, IsWrittenOf}
use Rattle.lrc_judge.proofs.written.Written.leads.Given as goal

abbrev pub invariant-loop-node : goal.invariant-loop-node
invariant-loop-node l = (run : List Act) → IsWrittenOf run l.self → AllLead l.self l.word l.node l.position l.latest
