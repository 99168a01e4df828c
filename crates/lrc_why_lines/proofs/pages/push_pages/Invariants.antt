-- What was added so far, and what is still to be added.
use Rattle.std.proofs.Common.{◌≡◌, ◌++◌, ◌-◌, ◌≤◌, drop, length}
use Rattle.std.specs.Prelude.{map}
use Rattle.std.specs.List.{flat_map}
use Rattle.lrc_labels.specs.Reading.{label_seen}
use Rattle.lrc_why_lines.specs.Pages.{page_line, pages_of}
use Rattle.lrc_why_lines.proofs.pages.push_pages.Given as goal

abbrev pub invariant-loop-start : goal.invariant-loop-start
invariant-loop-start l = record {
  within : l.start ≤ length l.words;
  added : l.text.items ++ flat_map (page_line (map label_seen l.labels) l.size) (pages_of l.size (drop l.start l.words))
      ≡ l.fn.text.items ++ flat_map (page_line (map label_seen l.labels) l.size) (pages_of l.size l.words);
}

abbrev pub decreases-loop-start : goal.decreases-loop-start
decreases-loop-start l = length l.words - l.start
