use Rattle.lrc_svg.proofs.WellFormed.{well_formed}
use Rattle.lrc_svg.proofs.laws.documents_are_well_formed.Goals as goal

pub returns : goal.returns
returns c = λ document. well_formed document
