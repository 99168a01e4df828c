-- The names of the tokens so far that are declared there.
use Rattle.std.proofs.Common.{◌≡◌, map, take}
use Rattle.std.specs.List.{flat_map}
use Rattle.lrc_named_tokens.specs.Token.{Located}
use Rattle.lrc_named_tokens.specs.View.{located_of}
use Rattle.lrc_named_name_hints.specs.Hints.{candidate}
use Rattle.lrc_named_name_hints.specs.Seen.{name_in, seen_of}
use Rattle.lrc_named_name_hints.proofs.near.candidates.Given as goal

abbrev pub invariant-loop-found : goal.invariant-loop-found
invariant-loop-found l = map (λ word. word.now) l.words.items ≡ flat_map (λ (it : Located). candidate (seen_of l.seen) (name_in it.lexeme)) (map located_of (take l.found-index l.seen.tokens.now))
