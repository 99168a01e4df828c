use Rattle.std.proofs.Common.{◌≡◌, ◌++◌, take}
use Rattle.std.specs.Int.{w64}
use Rattle.lrc_wire.specs.Spelling.{numbers}
use Rattle.lrc_wire.proofs.writing.changes.put_values.Given as goal

abbrev pub invariant-loop-value : goal.invariant-loop-value
invariant-loop-value l = l.out.items ≡ l.fn.out.items ++ numbers w64 (take l.value-index l.values)
