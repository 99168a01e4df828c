use Rattle.lrc_exact_states.proofs.Reached.{keys_alike}
use Rattle.lrc_exact_states.proofs.laws.equal_keys_stand_alike.Goals as goal

pub returns : goal.returns
returns c = λ program shape cap base base' run run' states states' calm some reached reached' keeps keeps' same.
    keys_alike program shape calm cap some base base' run run' states states' reached reached' keeps keeps' same
