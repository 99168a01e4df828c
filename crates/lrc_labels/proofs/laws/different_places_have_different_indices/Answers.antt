use Rattle.lrc_labels.proofs.Rows.{same_place}
use Rattle.lrc_labels.proofs.laws.different_places_have_different_indices.Goals as goal

pub returns : goal.returns
returns c = same_place
