-- The lines so far are added.
use Rattle.std.proofs.Common.{◌≡◌, ◌++◌, take}
use Rattle.std.specs.Prelude.{flat_map}
use Rattle.lrc_races_scored.specs.Spelled.{pair_line}
use Rattle.lrc_races_scored.proofs.spelling.push_pairs.Given as goal

abbrev pub invariant-loop-pair : goal.invariant-loop-pair
invariant-loop-pair l = l.text.items ≡ l.initial.text.items ++ flat_map pair_line (take l.pair-index l.pairs)
