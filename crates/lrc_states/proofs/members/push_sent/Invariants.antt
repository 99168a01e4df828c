use Rattle.std.proofs.Common.{◌≡◌, ◌++◌, take}
use Rattle.std.specs.Prelude.{codes}
use Rattle.lrc_messages.specs.Lists.{separated}
use Rattle.lrc_states.specs.Members.{envelope_parts}
use Rattle.lrc_states.proofs.members.push_sent.Given as goal

-- the items so far
abbrev pub invariant-loop-place : goal.invariant-loop-place
invariant-loop-place l = l.text.items ≡ l.initial.text.items ++ separated (codes ",") envelope_parts (take l.place l.envelopes)
