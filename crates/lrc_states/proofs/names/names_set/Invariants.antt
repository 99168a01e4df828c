use Rattle.std.proofs.Common.{◌≡◌, map, take}
use Rattle.lrc_state_text.specs.Place.{named_seen}
use Rattle.lrc_states.specs.Names.{names_set}
use Rattle.lrc_states.proofs.names.names_set.Given as goal

-- the names so far
abbrev pub invariant-loop-number : goal.invariant-loop-number
invariant-loop-number l = map named_seen l.set.items ≡ names_set (take l.number (map (λ name. name.now) l.names)) l.values
