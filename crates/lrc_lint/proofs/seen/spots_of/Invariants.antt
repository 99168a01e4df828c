-- The lines and the columns of the tokens so far.
use Rattle.std.proofs.Common.{◌≡◌, map, take}
use Rattle.lrc_lang.specs.Parser.Located.{located_of}
use Rattle.lrc_lint.specs.Linted.{spots_of}
use Rattle.lrc_lint.proofs.seen.spots_of.Given as goal

abbrev pub invariant-loop-found : goal.invariant-loop-found
invariant-loop-found l = l.spots.items ≡ spots_of (map located_of (take l.found-index l.all))
