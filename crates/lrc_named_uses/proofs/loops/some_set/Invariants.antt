-- What is looked for is found from here on, if anywhere.
use Rattle.std.proofs.Common.{◌≡◌, map, drop}
use Rattle.lrc_named_tokens.specs.View.{located_of}
use Rattle.lrc_named_names.specs.View.{declared_of}
use Rattle.lrc_named_uses.specs.Deeds.{deed_seen}
use Rattle.lrc_named_uses.specs.Loops.{some_set}
use Rattle.lrc_named_uses.proofs.loops.some_set.Given as goal

abbrev pub invariant-loop-found : goal.invariant-loop-found
invariant-loop-found l =
    some_set (declared_of l.names) (map deed_seen l.deeds) (map located_of l.some)
    ≡ some_set (declared_of l.names) (map deed_seen l.deeds) (map located_of (drop l.found-index l.some))
