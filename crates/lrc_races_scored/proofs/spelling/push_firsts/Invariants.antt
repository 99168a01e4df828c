-- The lines so far are added.
use Rattle.std.proofs.Common.{◌≡◌, ◌++◌, take}
use Rattle.std.specs.Prelude.{flat_map}
use Rattle.lrc_races_claims.specs.Known.{known_names}
use Rattle.lrc_races_scored.specs.Spelled.{first_line}
use Rattle.lrc_races_scored.proofs.spelling.push_firsts.Given as goal

abbrev pub invariant-loop-racing : goal.invariant-loop-racing
invariant-loop-racing l = l.text.items ≡ l.initial.text.items ++ flat_map (first_line (known_names l.variables)) (take l.racing-index l.missed)
