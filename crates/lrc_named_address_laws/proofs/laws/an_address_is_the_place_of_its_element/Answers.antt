-- By its parts.
use Rattle.lrc_named_address_laws.proofs.Places.{in_range}
use Rattle.lrc_named_address_laws.proofs.laws.an_address_is_the_place_of_its_element.Goals as goal

pub returns : goal.returns
returns c = λ names here count item es vs has within few. in_range names here count item es vs has within few
