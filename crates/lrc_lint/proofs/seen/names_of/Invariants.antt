-- The names of the tokens so far.
use Rattle.std.proofs.Common.{◌≡◌, map, take}
use Rattle.lrc_lang.specs.Counts.{names_of}
use Rattle.lrc_lang.specs.Parser.View.{token_of}
use Rattle.lrc_lint.proofs.seen.names_of.Given as goal

abbrev pub invariant-loop-token : goal.invariant-loop-token
invariant-loop-token l = map (λ name. name.now) l.names.items ≡ names_of (map token_of (take l.token-index l.tokens))
