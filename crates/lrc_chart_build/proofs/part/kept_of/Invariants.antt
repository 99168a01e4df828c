use Rattle.std.proofs.Common.{◌≡◌, take}
use Rattle.lrc_chart_build.specs.Course.{kept_of}
use Rattle.lrc_chart_build.proofs.part.kept_of.Given as goal

-- the rows kept so far
abbrev pub invariant-loop-number : goal.invariant-loop-number
invariant-loop-number l = l.places.items ≡ kept_of l.turns l.hides (take l.number l.rows)
