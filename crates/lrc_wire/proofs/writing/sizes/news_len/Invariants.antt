use Rattle.std.proofs.Common.{◌≡◌, ◌+◌, ◌≤◌, length, take}
use Rattle.std.specs.List.{flat_map}
use Rattle.lrc_wire.specs.declared.limits.TheConstants.{MOST_BODY_BYTES}
use Rattle.lrc_wire.specs.Spelling.{time, interval}
use Rattle.lrc_wire.proofs.writing.sizes.news_len.Given as goal

abbrev pub invariant-loop-record : goal.invariant-loop-record
invariant-loop-record l = record {
  exact : l.len ≡ l.before + length (time l.told.time) + 4 + length (flat_map interval (take l.record-index l.told.intervals));
  small : l.len ≤ MOST_BODY_BYTES;
}
