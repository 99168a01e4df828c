-- What is told of those that the loop has passed.
use Rattle.std.proofs.Common.{◌≡◌, map, take}
use Rattle.lrc_named_held.specs.Held.{held_in, held_seen}
use Rattle.lrc_named_held.proofs.held.held_in.Given as goal

abbrev pub invariant-loop-own : goal.invariant-loop-own
invariant-loop-own l = map held_seen l.held.items ≡ held_in l.text l.offsets (take l.own-index l.owns)
