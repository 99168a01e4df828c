use Rattle.lrc_world_laws.proofs.Epochs.{one_here, epoch_at}
use Rattle.lrc_world_laws.proofs.laws.epoch_counts_departs_before_each_access.Goals as goal

pub returns-clause-epoch : goal.returns-clause-epoch
returns-clause-epoch c = λ program nodes options events run n l segment position word runs there.
    epoch_at program nodes options events run n l runs there segment position word

pub returns-clause-one : goal.returns-clause-one
returns-clause-one c = λ program nodes options events run n l segment other runs there.
    one_here program nodes options events run n l runs there segment other
