-- The bytes of a message that may be sent.
use Rattle.std.proofs.Common.{◌≡◌, ◌≤◌, ℕ, List, length, ap}
use Rattle.hex.specs.Hex.{encode_lower}
use Rattle.lrc_envelope.specs.Envelope.{EnvelopeRecord}
use Rattle.lrc_wire.specs.declared.limits.TheConstants.{MOST_BODY_BYTES}
use Rattle.lrc_wire.specs.declared.version.Version.TheVariants.{Two}
use Rattle.lrc_wire.specs.Runs.{runs_of}
use Rattle.lrc_wire.specs.Spelling.{Spells, body, bytes_of}
use Rattle.lrc_wire.proofs.Envelopes.{plain}

pub digits_are : (envelope : EnvelopeRecord) (bytes : List ℕ) → Spells Two envelope bytes → encode_lower bytes ≡ encode_lower (bytes_of envelope)
digits_are envelope bytes spelled = ap encode_lower (plain Two envelope bytes spelled).spelled
