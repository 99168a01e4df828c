use Rattle.std.proofs.Common.{◌≡◌, drop, map}
use Rattle.lrc_named_held.specs.Held.{held_seen}
use Rattle.lrc_source.specs.Telling.{name_held}
use Rattle.lrc_source.proofs.read_text.name_held.Given as goal

-- what is told by those that are left
abbrev pub invariant-loop-one : goal.invariant-loop-one
invariant-loop-one l = name_held (map held_seen (drop l.one-index l.held)) l.name ≡ name_held (map held_seen l.held) l.name
