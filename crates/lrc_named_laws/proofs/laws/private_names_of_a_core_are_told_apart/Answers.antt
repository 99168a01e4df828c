-- By how they are spelled.
use Rattle.lrc_named_laws.proofs.Printed.{are_apart}
use Rattle.lrc_named_laws.proofs.laws.private_names_of_a_core_are_told_apart.Goals as goal

pub returns : goal.returns
returns c = are_apart
