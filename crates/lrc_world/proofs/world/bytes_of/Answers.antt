use Rattle.lrc_wire.specs.declared.version.Version.TheVariants.{Two}
use Rattle.lrc_wire.proofs.Envelopes.{envelope_again}
use Rattle.lrc_world.proofs.world.bytes_of.Goals as goal

pub returns-in-Ok-clause-written : goal.returns-in-Ok-clause-written
returns-in-Ok-clause-written c = envelope_again Two c.in-Ok.bytes.items c.args.envelope.now c.in-Ok.ensures.written
