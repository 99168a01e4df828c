-- What is declared is sound.
use Rattle.lrc_named_faults.proofs.Laid.{laid_out_is_sound}
use Rattle.lrc_named_faults.proofs.layout.Layout.sizes.Goals as goal

pub sizes-requires-clause-table : goal.sizes-requires-clause-table
sizes-requires-clause-table c = laid_out_is_sound c.args.self.now c.requires
