-- Where the tokens stand that the loop has passed.
use Rattle.std.proofs.Common.{◌≡◌, map, take}
use Rattle.lrc_named_tokens.specs.View.{located_of}
use Rattle.lrc_named.specs.Lines.{offsets_of}
use Rattle.lrc_named.proofs.lines.offsets_of.Given as goal

abbrev pub invariant-loop-token : goal.invariant-loop-token
invariant-loop-token l = l.offsets.items ≡ offsets_of (map located_of (take l.token-index l.tokens))
