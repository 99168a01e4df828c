use Rattle.std.proofs.Common.{◌≡◌, length, take}
use Rattle.lrc_text.specs.Lines.{lines_of}
use Rattle.lrc_acts.specs.ActsText.{SayActs}
use Rattle.lrc_acts.proofs.reading.acts_of.Given as goal

abbrev pub invariant-loop-line : goal.invariant-loop-line
invariant-loop-line l = record {
  counted : l.number ≡ length l.yielded;
  said : SayActs l.nodes 1 (take l.number (lines_of l.text)) l.lined.acts.items l.lined.lines.items;
}
