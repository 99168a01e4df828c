use Rattle.std.proofs.Common.{◌≡◌, ℕ, ◌<◌, None, Some}
use Rattle.std.specs.Prelude.{slice_get}
use Rattle.lrc_threads.proofs.life.first_failure.Given as goal

-- no thread so far failed
abbrev pub invariant-loop-node : goal.invariant-loop-node
invariant-loop-node l = (n : ℕ) → n < l.node → slice_get l.stops n ≡ Some None
