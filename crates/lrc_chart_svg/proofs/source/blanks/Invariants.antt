use Rattle.std.proofs.Common.{◌≡◌, ◌+◌, drop}
use Rattle.lrc_chart_svg.specs.Source.{blanks}
use Rattle.lrc_chart_svg.proofs.source.blanks.Given as goal

abbrev pub invariant-loop-byte : goal.invariant-loop-byte
invariant-loop-byte l = record {
  count : l.count ≡ l.byte-index;
  rest : blanks l.words ≡ l.byte-index + blanks (drop l.byte-index l.words);
}
