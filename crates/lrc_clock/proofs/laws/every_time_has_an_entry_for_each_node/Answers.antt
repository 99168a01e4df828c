use Rattle.lrc_clock.proofs.Rules.{long, long-before}
use Rattle.lrc_clock.proofs.Stamps.{long-stamp}
use Rattle.lrc_clock.proofs.laws.every_time_has_an_entry_for_each_node.Goals as goal

pub returns-clause-at : goal.returns-clause-at
returns-clause-at c = λ nodes run times keeps. long keeps

pub returns-clause-before : goal.returns-clause-before
returns-clause-before c = λ nodes run times keeps. λ j node. long-before keeps node j

pub returns-clause-stamp : goal.returns-clause-stamp
returns-clause-stamp c = λ nodes run times keeps. λ j node. long-stamp keeps node j
