-- The text has grown by the sizes that the loop has passed.
use Rattle.std.proofs.Common.{◌≡◌, ◌++◌, take}
use Rattle.lrc_named_text.specs.Labels.{sizes_text}
use Rattle.lrc_named_text.proofs.labels.push_sizes.Given as goal

abbrev pub invariant-loop-size : goal.invariant-loop-size
invariant-loop-size l = l.text.items ≡ l.initial.text.items ++ sizes_text (take l.size-index l.sizes)
