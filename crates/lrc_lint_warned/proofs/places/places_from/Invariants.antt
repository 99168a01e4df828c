-- The places so far, and then those of the tokens from here on.
use Rattle.std.proofs.Common.{◌≡◌, ◌++◌, ◌+◌, map, drop}
use Rattle.std.specs.Prelude.{true}
use Rattle.lrc_lang.specs.Parser.View.{token_of}
use Rattle.lrc_lint_warned.specs.Places.{places_from}
use Rattle.lrc_lint_warned.proofs.places.places_from.Given as goal

abbrev pub invariant-loop-i : goal.invariant-loop-i
invariant-loop-i l =
    places_from l.scan 6 true (map token_of l.tokens)
    ≡ l.places.items ++ places_from l.scan (l.i + 6) l.behind_seam (map token_of (drop l.i l.tokens))
