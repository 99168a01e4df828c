use Rattle.std.proofs.Common.{◌≡◌, ◌≤◌, ◌++◌, drop}
use Rattle.std.specs.Prelude.{codes}
use Rattle.std.specs.List.{flat_map}
use Rattle.lrc_text.specs.Parts.{texts_of}
use Rattle.lrc_chart_text.specs.Lines.{pieces_of}
use Rattle.lrc_chart_text.specs.Written.{written}
use Rattle.lrc_chart_text.proofs.lines.push_paragraph.Given as goal

-- what is written, with the phrases that are left, is the whole
abbrev pub invariant-loop-phrase : goal.invariant-loop-phrase
invariant-loop-phrase l = record {
  text : l.text.items ++ written l.room (codes "\n" ++ l.rest) l.used (flat_map (pieces_of l.room) (texts_of (drop l.phrase-index l.phrases)))
      ≡ l.initial.text.items ++ written l.room (codes "\n" ++ l.rest) 0 (flat_map (pieces_of l.room) (texts_of l.phrases));
  short : l.used ≤ l.room;
}
