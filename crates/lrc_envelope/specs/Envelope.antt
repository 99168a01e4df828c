-- Envelopes, as contracts see them.
use Rattle.std.specs.Prelude.{ℕ, ◌<◌}
use Rattle.lrc_envelope.specs.declared.limits.TheConstants.{MOST_NODES}
use Rattle.lrc_envelope.specs.declared.message.Message.{Message}

-- a message with its sender, its receiver and its number
pub record EnvelopeRecord : Type 0 where
  pub from : ℕ
  pub to : ℕ
  pub number : ℕ
  pub message : Message

pub record IsEnvelope (envelope : EnvelopeRecord) : Type 0 where
  pub from : envelope.from < MOST_NODES
  pub to : envelope.to < MOST_NODES
