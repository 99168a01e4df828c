-- The first tokens are numbered.
use Rattle.std.proofs.Common.{◌≡◌, map}
use Rattle.std.specs.List.{range_with_len}
use Rattle.lrc_named_warned.specs.Places.{number_spot}
use Rattle.lrc_named_warned.proofs.tokens.numbered.Given as goal

abbrev pub invariant-loop-i : goal.invariant-loop-i
invariant-loop-i l = l.spots.items ≡ map number_spot (range_with_len 0 l.i)
