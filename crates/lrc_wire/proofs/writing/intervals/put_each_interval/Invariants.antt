use Rattle.std.proofs.Common.{◌≡◌, ◌++◌, take}
use Rattle.std.specs.Prelude.{All}
use Rattle.std.specs.List.{flat_map}
use Rattle.lrc_store.specs.Interval.{IsInterval}
use Rattle.lrc_wire.specs.Ranges.{HasBits}
use Rattle.lrc_wire.specs.Spelling.{interval}
use Rattle.lrc_wire.proofs.writing.intervals.put_each_interval.Given as goal

abbrev pub invariant-loop-record : goal.invariant-loop-record
invariant-loop-record l = record {
  written : l.out.items ≡ l.fn.out.items ++ flat_map interval (take l.record-index l.list);
  each : All IsInterval (take l.record-index l.list);
  bits : All (λ i. All (HasBits 32) i.stamp) (take l.record-index l.list);
}
