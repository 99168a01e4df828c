use Rattle.std.proofs.Common.{◌≡◌, ◌++◌, ◌+◌, ◌*◌, length, take}
use Rattle.std.specs.Prelude.{All}
use Rattle.std.specs.Int.{w32}
use Rattle.lrc_wire.specs.Ranges.{HasBits}
use Rattle.lrc_wire.specs.Spelling.{numbers}
use Rattle.lrc_wire.proofs.writing.intervals.add_entries.Given as goal

abbrev pub invariant-loop-node : goal.invariant-loop-node
invariant-loop-node l = record {
  written : l.block.items ≡ l.fn.block.items ++ numbers w32 (take l.node l.entries);
  bits : All (HasBits 32) (take l.node l.entries);
  long : length l.block.items ≡ length l.fn.block.items + 4 * l.node;
}
