use Rattle.std.proofs.Common.{[]}
use Rattle.lrc_protocol.specs.Run.{run, taken}
use Rattle.lrc_node_laws.proofs.Leads.{at_start, one_more, reached}
use Rattle.lrc_node_laws.proofs.laws.turns_lead_on.Goals as goal

pub returns-clause-fresh : goal.returns-clause-fresh
returns-clause-fresh c = λ program nodes options me lt.
    record { program = program; nodes = nodes; options = options; me = me; turns = []; leads = at_start program nodes options me lt }

pub returns-clause-run : goal.returns-clause-run
returns-clause-run c = λ node after turn r e. reached node run turn after r e

pub returns-clause-take : goal.returns-clause-take
returns-clause-take c = λ node after turn envelope r e. reached node (taken envelope) turn after r e

pub returns-clause-with_turns : goal.returns-clause-with_turns
returns-clause-with_turns c = λ program nodes options me l input turn after leads e. one_more program nodes options me l input turn after leads e
