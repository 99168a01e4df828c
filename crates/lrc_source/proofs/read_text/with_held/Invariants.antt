use Rattle.std.proofs.Common.{◌≡◌, map, take}
use Rattle.lrc_named_held.specs.Held.{held_seen}
use Rattle.lrc_source.specs.Telling.{name_held}
use Rattle.lrc_source.proofs.read_text.with_held.Given as goal

-- what is told in place of the names so far
abbrev pub invariant-loop-name : goal.invariant-loop-name
invariant-loop-name l =
    map (λ name. name.now) l.told.items ≡ map (name_held (map held_seen l.held)) (map (λ name. name.now) (take l.name-index l.names))
