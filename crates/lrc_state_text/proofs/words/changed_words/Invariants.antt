-- What was added so far.
use Rattle.std.proofs.Common.{◌≡◌, take}
use Rattle.lrc_state_text.specs.Words.{changed_words}
use Rattle.lrc_state_text.proofs.words.changed_words.Given as goal

abbrev pub invariant-loop-place : goal.invariant-loop-place
invariant-loop-place l = l.words.items ≡ changed_words l.first (take l.place l.changes)
