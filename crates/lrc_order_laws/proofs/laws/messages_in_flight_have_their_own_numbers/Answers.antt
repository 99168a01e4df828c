use Rattle.lrc_order_laws.proofs.InFlight.{all_send}
use Rattle.lrc_order_laws.proofs.laws.messages_in_flight_have_their_own_numbers.Goals as goal

pub returns : goal.returns
returns c = λ program nodes options events world from to l e at lt. ((all_send program nodes options events world e).each from l at).numbers to lt
