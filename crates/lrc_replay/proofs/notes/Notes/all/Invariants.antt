use Rattle.std.proofs.Common.{◌≡◌, take}
use Rattle.std.specs.List.{flat_map}
use Rattle.std.specs.Option.{option_to_list}
use Rattle.lrc_replay.proofs.notes.Notes.all.Given as goal

-- the Writes so far
abbrev pub invariant-loop-last : goal.invariant-loop-last
invariant-loop-last l = l.notes.items ≡ flat_map option_to_list (take l.last-index l.last-items)
