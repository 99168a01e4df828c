-- Those so far whose keys are not there are given.
use Rattle.std.proofs.Common.{◌<◌}
use Rattle.std.specs.Prelude.{AllPairs}
use Rattle.lrc_races_missed.proofs.VariableLemmas.{GivenFree, first_key_of}
use Rattle.lrc_races_missed.proofs.variables.missed_firsts.Given as goal

abbrev pub invariant-loop-racing : goal.invariant-loop-racing
invariant-loop-racing l =
    AllPairs (λ one other. one.line < other.line) l.all → GivenFree first_key_of l.keys.keys l.all l.racing-index l.missed.items
