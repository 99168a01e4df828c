use Rattle.lrc_clock.proofs.Epochs.{earlier_epoch, earlier_epoch_is_covered}
use Rattle.lrc_clock.proofs.laws.earlier_epoch_is_covered.Goals as goal

pub returns-clause-before : goal.returns-clause-before
returns-clause-before c = λ nodes run times keeps ws waits. λ i j p q d e first. earlier_epoch ws waits i j p q d e (keeps.in_range i p d first) first

pub returns-clause-covered : goal.returns-clause-covered
returns-clause-covered c = λ nodes run times keeps ws waits. earlier_epoch_is_covered ws waits keeps
