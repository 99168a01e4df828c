use Rattle.lrc_clock.proofs.Covering.{closing-entry}
use Rattle.lrc_clock.proofs.Rules.{stamp-other}
use Rattle.lrc_clock.proofs.Stamps.{closer-covers, stamp-index}
use Rattle.lrc_clock.proofs.laws.stamps_are_of_closing_acts.Goals as goal

pub returns-clause-covered : goal.returns-clause-covered
returns-clause-covered c = λ nodes run times keeps. closer-covers keeps

pub returns-clause-act_index : goal.returns-clause-act_index
returns-clause-act_index c = λ nodes run times keeps. closing-entry keeps

pub returns-clause-stamp_index : goal.returns-clause-stamp_index
returns-clause-stamp_index c = λ nodes run times keeps. stamp-index keeps

pub returns-clause-before : goal.returns-clause-before
returns-clause-before c = λ nodes run times keeps. λ j node q other. stamp-other keeps node j q other
