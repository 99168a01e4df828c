use Rattle.std.proofs.Common.{◌≡◌, ◌-◌, ◌+◌, ◌*◌, None, length, take, drop}
use Rattle.lrc_wire.specs.Reading.{elements_at, entry_at, entries_at}
use Rattle.lrc_wire.proofs.Elements.{with_front}
use Rattle.lrc_wire.proofs.reading.times.take_entries.Given as goal

abbrev pub invariant-loop-node : goal.invariant-loop-node
invariant-loop-node l = record {
  long : length l.time ≡ length l.fn.time;
  read : with_front (take l.node l.time)
      (elements_at (entry_at None) (λ node _. node + 1) (length l.fn.time - l.node) l.node (drop (4 * l.node) l.fn.bytes.now)) ≡ entries_at None (length l.fn.time) l.fn.bytes.now;
}
