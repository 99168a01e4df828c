-- What is declared is sound.
use Rattle.lrc_named_faults.proofs.Laid.{laid_out_is_sound}
use Rattle.lrc_named_faults.proofs.layout.Layout.constant_value.Goals as goal

pub constant_value-requires-clause-table : goal.constant_value-requires-clause-table
constant_value-requires-clause-table c = laid_out_is_sound c.args.self.now c.requires
