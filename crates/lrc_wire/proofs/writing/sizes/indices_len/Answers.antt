use Rattle.std.proofs.Common.{arith}
use Rattle.lrc_wire.proofs.Lengths.{length_indices}
use Rattle.lrc_wire.proofs.writing.sizes.indices_len.Goals as goal

pub returns-then-len-clause-over : goal.returns-then-len-clause-over
returns-then-len-clause-over c = omega (arith, length_indices c.args.list.now, c.if-len.true, c.len.ensures.count)

pub returns-clause-within : goal.returns-clause-within
returns-clause-within c = omega (arith, length_indices c.args.list.now, c.len.ensures.count)
