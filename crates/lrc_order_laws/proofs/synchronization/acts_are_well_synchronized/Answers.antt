use Rattle.lrc_order_laws.proofs.Departs.{all_departed}
use Rattle.lrc_order_laws.proofs.Joining.{is_synchronized}
use Rattle.lrc_order_laws.proofs.synchronization.acts_are_well_synchronized.Goals as goal

pub returns : goal.returns
returns c = λ program nodes options events world e.
    is_synchronized program nodes options events world e (all_departed program nodes options events world e)
