use Rattle.std.proofs.Common.{◌≡◌, false}
use Rattle.lrc_chart_acts.specs.Direct.{goes_over}
use Rattle.lrc_chart_acts.proofs.direct.goes_over.Given as goal

-- none of the acts so far is between the two
abbrev pub invariant-loop-k : goal.invariant-loop-k
invariant-loop-k l = goes_over l.order l.earlier l.later l.k ≡ false
