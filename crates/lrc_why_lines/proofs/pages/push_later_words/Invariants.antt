-- What was added so far.
use Rattle.std.proofs.Common.{◌≡◌, ◌++◌, take}
use Rattle.std.specs.Prelude.{map}
use Rattle.lrc_labels.specs.Reading.{label_seen}
use Rattle.lrc_why_lines.specs.Pages.{later_words}
use Rattle.lrc_why_lines.proofs.pages.push_later_words.Given as goal

abbrev pub invariant-loop-word : goal.invariant-loop-word
invariant-loop-word l = l.text.items ≡ l.fn.text.items ++ later_words (map label_seen l.labels) (take l.word-index l.words)
