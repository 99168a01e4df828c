-- The lines of those that the loop has passed.
use Rattle.std.proofs.Common.{◌≡◌, map, take}
use Rattle.lrc_named_core.specs.View.{origin_of}
use Rattle.lrc_named_origins.specs.Origins.{lines_told}
use Rattle.lrc_named.proofs.lines.told_lines.Given as goal

abbrev pub invariant-loop-origin : goal.invariant-loop-origin
invariant-loop-origin l = l.told.items ≡ lines_told l.lines (map origin_of (take l.origin-index l.origins))
