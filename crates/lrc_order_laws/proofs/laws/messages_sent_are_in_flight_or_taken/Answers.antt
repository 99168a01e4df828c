use Rattle.lrc_order_laws.proofs.NoneLost.{all_stay}
use Rattle.lrc_order_laws.proofs.laws.messages_sent_are_in_flight_or_taken.Goals as goal

pub returns : goal.returns
returns c = λ program nodes options events world from to number sender receiver e at_from at_to ge below.
    (all_stay program nodes options events world e).stay from to number sender receiver at_from at_to ge below
