use Rattle.std.proofs.Common.{◌≡◌, map, take}
use Rattle.lrc_source.specs.Telling.{name_told}
use Rattle.lrc_source.proofs.read_text.without_own.Given as goal

-- what stands in place of the names so far
abbrev pub invariant-loop-name : goal.invariant-loop-name
invariant-loop-name l = map (λ name. name.now) l.told.items ≡ map name_told (map (λ name. name.now) (take l.name-index l.names))
