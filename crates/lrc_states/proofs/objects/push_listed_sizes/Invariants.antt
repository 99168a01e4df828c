use Rattle.std.proofs.Common.{◌≡◌, ◌++◌, take}
use Rattle.std.specs.Prelude.{codes, decimal}
use Rattle.lrc_messages.specs.Lists.{separated}
use Rattle.lrc_states.proofs.objects.push_listed_sizes.Given as goal

-- the sizes so far
abbrev pub invariant-loop-place : goal.invariant-loop-place
invariant-loop-place l = l.text.items ≡ l.initial.text.items ++ separated (codes ",") decimal (take l.place l.sizes)
