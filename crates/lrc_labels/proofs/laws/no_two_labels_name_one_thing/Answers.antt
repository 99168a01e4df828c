use Rattle.lrc_labels.proofs.Apart.{labels_apart}
use Rattle.lrc_labels.proofs.laws.no_two_labels_name_one_thing.Goals as goal

pub returns : goal.returns
returns c = labels_apart
