use Rattle.std.proofs.Common.{◌≡◌, ◌++◌, take}
use Rattle.std.specs.Prelude.{codes}
use Rattle.lrc_messages.specs.Lists.{separated}
use Rattle.lrc_states.specs.Objects.{note_object}
use Rattle.lrc_states.proofs.objects.push_notes.Given as goal

-- the items so far
abbrev pub invariant-loop-place : goal.invariant-loop-place
invariant-loop-place l = l.text.items ≡ l.initial.text.items ++ separated (codes ",") note_object (take l.place l.notes)
