use Rattle.std.proofs.Common.{◌≡◌, ◌++◌, map, take}
use Rattle.std.specs.Prelude.{codes}
use Rattle.lrc_messages.specs.Lists.{separated}
use Rattle.lrc_labels.specs.Reading.{label_seen}
use Rattle.lrc_states.specs.Objects.{label_object}
use Rattle.lrc_states.proofs.objects.push_labels.Given as goal

-- the items so far
abbrev pub invariant-loop-place : goal.invariant-loop-place
invariant-loop-place l = l.text.items ≡ l.initial.text.items ++ separated (codes ",") label_object (take l.place (map label_seen l.labels))
