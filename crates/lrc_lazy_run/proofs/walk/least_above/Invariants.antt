-- What was found is one of them.
use Rattle.std.proofs.Common.{◌<◌, length}
use Rattle.std.specs.Prelude.{IfSome}
use Rattle.lrc_lazy_run.proofs.walk.least_above.Given as goal

abbrev pub invariant-loop-place : goal.invariant-loop-place
invariant-loop-place l = IfSome l.found (λ found. found < length l.deeds)
