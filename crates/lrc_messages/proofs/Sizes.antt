-- How many bytes what `encode` writes has.
use Rattle.std.proofs.Common.{◌≡◌, ◌≤◌, ℕ, List, length, ap}
use Rattle.lrc_wire.specs.declared.limits.TheConstants.{MOST_BODY_BYTES}
use Rattle.lrc_wire.specs.declared.version.Version.TheVariants.{Two}
use Rattle.lrc_envelope.specs.Envelope.{EnvelopeRecord}
use Rattle.lrc_wire.specs.Runs.{runs_of}
use Rattle.lrc_wire.specs.Spelling.{Spells, body, bytes_of}
use Rattle.lrc_wire.proofs.Envelopes.{plain}

pub written_long : (envelope : EnvelopeRecord) (bytes : List ℕ) → Spells Two envelope bytes → length bytes ≡ length (bytes_of envelope)
written_long envelope bytes spelled = ap length (plain Two envelope bytes spelled).spelled

pub written_short : (envelope : EnvelopeRecord) (bytes : List ℕ) → Spells Two envelope bytes
    → length (body Two runs_of envelope.message) ≤ MOST_BODY_BYTES
written_short envelope bytes spelled = (plain Two envelope bytes spelled).short
