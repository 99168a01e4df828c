use Rattle.lrc_wire.proofs.Envelopes.{one_spelling}
use Rattle.lrc_wire.proofs.laws.no_spelling_begins_another.Goals as goal

pub returns : goal.returns
returns c = one_spelling
