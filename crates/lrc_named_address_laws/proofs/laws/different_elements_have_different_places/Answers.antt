-- By rows.
use Rattle.lrc_named_address_laws.proofs.Places.{element_unique}
use Rattle.lrc_named_address_laws.proofs.laws.different_elements_have_different_places.Goals as goal

pub returns : goal.returns
returns c = λ sizes vs ws h k same. element_unique sizes vs ws h k same
