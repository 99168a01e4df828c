-- No act of the node stands from here on and before the position.
use Rattle.std.proofs.Common.{ℕ, ◌<◌, ◌≤◌}
use Rattle.lrc_why_chains.specs.Known.{IsActOf}
use Rattle.lrc_why.proofs.known.act_before.Given as goal

abbrev pub invariant-loop-k : goal.invariant-loop-k
invariant-loop-k l = (m : ℕ) → l.k ≤ m → m < l.position → IsActOf l.acts l.node m → ⊥
