use Rattle.std.proofs.Common.{subst, arith}
use Rattle.lrc_wire.specs.declared.version.Version.{Version}
use Rattle.lrc_wire.specs.Spelling.{Spells}
use Rattle.lrc_wire.specs.Reading.{Gives, envelope_of}
use Rattle.lrc_wire.proofs.Shapes.{if_gives}
use Rattle.lrc_wire.proofs.Envelopes.{envelope_takes, envelope_again}
use Rattle.lrc_wire.proofs.reading.decode.Goals as goal

pub returns-clause-found : goal.returns-clause-found
returns-clause-found c =
    if_gives (λ read. read) c.read_envelope.result (envelope_of c.args.bytes.now) (λ e. (version : Version)
    × Spells version e c.args.bytes.now) c.read_envelope.ensures
    (λ e read. envelope_takes c.args.bytes.now e (λ i. omega (arith, c.type_inv.bytes i)) read)

pub returns-clause-only : goal.returns-clause-only
returns-clause-only c =
    λ version e spelled. subst (λ f. Gives (λ read. read) c.read_envelope.result f) (envelope_again version c.args.bytes.now e spelled) c.read_envelope.ensures
