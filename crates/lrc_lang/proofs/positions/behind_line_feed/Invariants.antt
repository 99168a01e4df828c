use Rattle.std.proofs.Common.{◌≡◌, ◌≤◌, ◌+◌, fold, take}
use Rattle.lrc_lang.specs.Positions.{with_byte}
use Rattle.lrc_lang.proofs.positions.behind_line_feed.Given as goal

abbrev pub invariant-loop-byte : goal.invariant-loop-byte
invariant-loop-byte l = record {
  value : l.count ≡ fold with_byte l.before (take l.byte-index l.bytes);
  bound : l.count ≤ l.before + l.byte-index;
}
