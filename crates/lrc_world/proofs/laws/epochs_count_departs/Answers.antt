use Rattle.lrc_world.proofs.Epochs.{of_segment, of_access}
use Rattle.lrc_world.proofs.laws.epochs_count_departs.Goals as goal

pub returns-clause-of_segment : goal.returns-clause-of_segment
returns-clause-of_segment c = λ program nodes options events run n l segment runs there has.
    of_segment program nodes options events run runs n l there segment has

pub returns-clause-of_access : goal.returns-clause-of_access
returns-clause-of_access c = λ program nodes options events run n l position word runs there accesses.
    of_access program nodes options events run runs n l there position word accesses
