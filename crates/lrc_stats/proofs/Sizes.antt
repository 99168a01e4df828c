-- How many bytes what `encode` writes has.
use Rattle.std.proofs.Common.{◌≡◌, ◌≤◌, ◌∙◌, ℕ, List, length, ap, sym}
use Rattle.std.specs.Prelude.{nat_lt}
use Rattle.std.proofs.lemmas.Bool.{cond-false, le-ltb}
use Rattle.lrc_wire.specs.declared.limits.TheConstants.{MOST_BODY_BYTES}
use Rattle.lrc_wire.specs.declared.version.Version.TheVariants.{Two}
use Rattle.lrc_envelope.specs.Envelope.{EnvelopeRecord}
use Rattle.lrc_wire.specs.Runs.{runs_of}
use Rattle.lrc_wire.specs.Spelling.{Spells, body, bytes_of}
use Rattle.lrc_wire.proofs.Envelopes.{plain}
use Rattle.lrc_stats.specs.Sent.{size_of}

pub written_size : (envelope : EnvelopeRecord) (bytes : List ℕ) → Spells Two envelope bytes → length bytes ≡ size_of envelope
written_size envelope bytes spelled =
    let whole = plain Two envelope bytes spelled in
    let long = length (body Two runs_of envelope.message) in
    let short : long ≤ MOST_BODY_BYTES = whole.short in
    ap length whole.spelled
    ∙ sym (cond-false (nat_lt MOST_BODY_BYTES long) 0 (length (bytes_of envelope)) (le-ltb MOST_BODY_BYTES long short))
