-- Its address is the greatest number of 64 bits.
use Rattle.lrc_named_address.specs.Address.{address}
use Rattle.lrc_named_address_laws.proofs.Places.{out_of_range}
use Rattle.lrc_named_acts_laws.specs.Standing.{worth}
use Rattle.lrc_named_acts_laws.proofs.Locking.{no_element}
use Rattle.lrc_named_acts_laws.proofs.laws.an_index_out_of_range_traps.Goals as goal

pub returns : goal.returns
returns c = λ numbers t item es vs core more stands uses values same beyond words locks d after g.
    no_element numbers t (address item es) core more stands uses
    (out_of_range (worth numbers t) t.setting.me t.setting.nodes item es vs values same beyond) words locks d after g
