-- The text has grown by the labels of what the loop has passed.
use Rattle.std.proofs.Common.{◌≡◌, ◌++◌, take, map}
use Rattle.lrc_named_names.specs.View.{entry_of}
use Rattle.lrc_named_text.specs.Labels.{labels_text}
use Rattle.lrc_named_text.proofs.labels.push_labels.Given as goal

abbrev pub invariant-loop-entry : goal.invariant-loop-entry
invariant-loop-entry l = l.text.items ≡ l.initial.text.items ++ labels_text (map entry_of (take l.entry-index l.declared))
