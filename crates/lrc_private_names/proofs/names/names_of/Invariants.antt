-- The names of what was met so far.
use Rattle.std.proofs.Common.{◌≡◌, map, take}
use Rattle.lrc_lang.specs.Parser.Located.{located_of}
use Rattle.lrc_private_names.specs.Spelling.{names_in}
use Rattle.lrc_private_names.proofs.names.names_of.Given as goal

abbrev pub invariant-loop-found : goal.invariant-loop-found
invariant-loop-found l = map (λ name. name.now) l.names.items ≡ names_in (map located_of (take l.found-index l.found-items))
