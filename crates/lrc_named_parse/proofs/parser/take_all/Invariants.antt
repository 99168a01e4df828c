use Rattle.std.proofs.Common.{◌≡◌, map}
use Rattle.lrc_named_tokens.specs.View.{located_of}
use Rattle.lrc_named_parse.proofs.Reading.{IsRead}
use Rattle.lrc_named_parse.proofs.parser.take_all.Given as goal

-- as many tokens have been taken as the loop has passed
abbrev pub invariant-loop-found : goal.invariant-loop-found
invariant-loop-found l = (l.at ≡ l.found-index) × IsRead (map located_of l.all) l.found-index l.state l.limits
