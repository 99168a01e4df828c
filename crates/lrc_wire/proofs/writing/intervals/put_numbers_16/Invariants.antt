use Rattle.std.proofs.Common.{◌≡◌, ◌++◌, take}
use Rattle.std.specs.Int.{w16}
use Rattle.lrc_wire.specs.Spelling.{numbers}
use Rattle.lrc_wire.proofs.writing.intervals.put_numbers_16.Given as goal

abbrev pub invariant-loop-number : goal.invariant-loop-number
invariant-loop-number l = l.out.items ≡ l.fn.out.items ++ numbers w16 (take l.number-index l.list)
