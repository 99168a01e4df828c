-- What is said of those that the loop has passed.
use Rattle.std.proofs.Common.{◌≡◌, map, take}
use Rattle.lrc_named_core.specs.View.{origin_of, trap_of}
use Rattle.lrc_named_origins.specs.Origins.{traps_told}
use Rattle.lrc_named.proofs.lines.told_traps.Given as goal

abbrev pub invariant-loop-origin : goal.invariant-loop-origin
invariant-loop-origin l = map trap_of l.traps.items ≡ traps_told (map origin_of (take l.origin-index l.origins))
