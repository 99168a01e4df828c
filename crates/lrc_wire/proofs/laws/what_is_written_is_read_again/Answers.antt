use Rattle.lrc_wire.proofs.Envelopes.{envelope_again}
use Rattle.lrc_wire.proofs.laws.what_is_written_is_read_again.Goals as goal

pub returns : goal.returns
returns c = λ version envelope bytes spelled. envelope_again version bytes envelope spelled
