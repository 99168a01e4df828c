use Rattle.lrc_clock.proofs.Epochs.{earlier_epoch, earlier_epoch_is_covered}
use Rattle.lrc_clock.specs.Keeping.{KeepsTime}
use Rattle.lrc_order_laws.proofs.Timed.{keeps, synchronized, waits}
use Rattle.lrc_order_laws.proofs.cover.earlier_epoch_is_covered.Goals as goal

pub returns-clause-before : goal.returns-clause-before
returns-clause-before c = λ program nodes options events world i j p q d f e first.
    let k : KeepsTime nodes world.acts world.times = keeps program nodes options events world e in
    earlier_epoch (synchronized program nodes options events world e) (waits program nodes options events world e) i j p q d f (k.in_range i p d first) first

pub returns-clause-covered : goal.returns-clause-covered
returns-clause-covered c = λ program nodes options events world i j p q d f e.
    earlier_epoch_is_covered (synchronized program nodes options events world e) (waits program nodes options events world e)
    (keeps program nodes options events world e) i j p q d f
