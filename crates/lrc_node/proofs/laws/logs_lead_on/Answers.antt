use Rattle.std.proofs.Common.{refl}
use Rattle.lrc_node.proofs.Leading.{leads_turn, leads_still}
use Rattle.lrc_node.proofs.laws.logs_lead_on.Goals as goal

pub returns-clause-fresh : goal.returns-clause-fresh
returns-clause-fresh c = λ program nodes options me. record { sound_so = refl; replayed = refl; trace_is = refl }

pub returns-clause-turn : goal.returns-clause-turn
returns-clause-turn c = λ start l old new input came f turn notes. leads_turn start l old new input came f turn notes

pub returns-clause-unready : goal.returns-clause-unready
returns-clause-unready c = λ start l old new input came f refused trace. leads_still start l old new f (refused l f.sound_so).1 trace

pub returns-clause-unexpected : goal.returns-clause-unexpected
returns-clause-unexpected c = λ start l old new input came f refused trace. leads_still start l old new f (refused l f.sound_so).1 trace
