use Rattle.std.proofs.Common.{◌≡◌, ◌++◌, take}
use Rattle.std.specs.List.{flat_map}
use Rattle.lrc_labels.specs.Show.{index_text}
use Rattle.lrc_labels.proofs.show.push_each_index.Given as goal

-- the indices so far
abbrev pub invariant-loop-index : goal.invariant-loop-index
invariant-loop-index l = l.text.items ≡ l.initial.text.items ++ flat_map index_text (take l.index-index l.indices)
