-- By rows.
use Rattle.lrc_named_address_laws.proofs.Places.{element_within}
use Rattle.lrc_named_address_laws.proofs.laws.elements_lie_within_their_array.Goals as goal

pub returns : goal.returns
returns c = λ sizes vs within. element_within sizes vs within
