-- What is told of those that the loop has passed.
use Rattle.std.proofs.Common.{◌≡◌, map, take}
use Rattle.lrc_named_held.specs.Held.{held_of, held_seen}
use Rattle.lrc_named_held.proofs.held.held_of.Given as goal

abbrev pub invariant-loop-one : goal.invariant-loop-one
invariant-loop-one l =
    map (λ one. map held_seen one.items) l.held.items ≡ held_of l.text l.offsets (map (λ one. one.items) (take l.one-index l.owns))
