use Rattle.lrc_wire.proofs.Envelopes.{only_spelling}
use Rattle.lrc_wire.proofs.laws.a_spelling_is_unique.Goals as goal

pub returns : goal.returns
returns c = only_spelling
