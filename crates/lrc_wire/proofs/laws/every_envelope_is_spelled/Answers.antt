use Rattle.lrc_wire.proofs.Envelopes.{has_spelling}
use Rattle.lrc_wire.proofs.laws.every_envelope_is_spelled.Goals as goal

pub returns : goal.returns
returns c = λ version envelope cut fits cuts short. has_spelling version envelope fits cut cuts short
