-- The tokens so far.
use Rattle.std.proofs.Common.{◌≡◌, map, take}
use Rattle.lrc_lang.specs.Parser.Located.{located_of}
use Rattle.lrc_lang.specs.Parser.View.{token_of}
use Rattle.lrc_lint.specs.Linted.{tokens_of}
use Rattle.lrc_named_warned.proofs.tokens.tokens_of.Given as goal

abbrev pub invariant-loop-found : goal.invariant-loop-found
invariant-loop-found l = map token_of l.tokens.items ≡ tokens_of (map located_of (take l.found-index l.all))
