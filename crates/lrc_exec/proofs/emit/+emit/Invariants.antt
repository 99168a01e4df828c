-- What the loop over a block keeps: the statements behind the present one have their instructions.
use Rattle.std.proofs.Common.{drop}
use Rattle.lrc_exec.specs.Flat.{IsPut}
use Rattle.lrc_exec.proofs.emit.+emit.Given as goal

abbrev pub invariant-put_block-loop-i : goal.invariant-put_block-loop-i
invariant-put_block-loop-i l = IsPut l.initial.code.items l.code.items (drop l.i l.statements) l.next l.place
