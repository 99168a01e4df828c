use Rattle.std.proofs.Common.{◌≡◌, ◌<◌, ℕ, Some}
use Rattle.std.specs.Prelude.{slice_get}
use Rattle.lrc_run.proofs.sent.is_among.Given as goal

-- it is none of those so far
abbrev pub invariant-loop-sent : goal.invariant-loop-sent
invariant-loop-sent l = (k : ℕ) → k < l.sent-index → slice_get l.out k ≡ Some l.envelope → ⊥
