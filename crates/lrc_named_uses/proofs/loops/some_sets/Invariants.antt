-- What is looked for is found from here on, if anywhere.
use Rattle.std.proofs.Common.{◌≡◌, map, drop}
use Rattle.std.specs.List.{list_any}
use Rattle.lrc_named_uses.specs.Deeds.{deed_seen}
use Rattle.lrc_named_uses.specs.Loops.{sets_name}
use Rattle.lrc_named_uses.proofs.loops.some_sets.Given as goal

abbrev pub invariant-loop-deed : goal.invariant-loop-deed
invariant-loop-deed l = list_any (sets_name l.name) (map deed_seen l.deeds) ≡ list_any (sets_name l.name) (map deed_seen (drop l.deed-index l.deeds))
