use Rattle.std.proofs.Common.{◌≡◌, [], map}
use Rattle.std.specs.List.{range_with_len}
use Rattle.lrc_replay.specs.Acts.{last_note}
use Rattle.lrc_replay.proofs.notes.Notes.none.Given as goal

-- nothing was written to the words so far
abbrev pub invariant-loop-word : goal.invariant-loop-word
invariant-loop-word l = l.last.items ≡ map (last_note []) (range_with_len 0 l._word)
