-- The chain so far goes on to what is told from here.
use Rattle.std.proofs.Common.{ℕ, ◌-◌, ◌≤◌, List, ◌++◌}
use Rattle.lrc_why_chains.specs.Starts.{IsPath, IsToldPath}
use Rattle.lrc_why_chains.proofs.chains.follow.Given as goal

abbrev pub invariant-loop-at : goal.invariant-loop-at
invariant-loop-at l = record {
  first : l.from ≤ l.at;
  last : l.at ≤ l.to;
  told : (path : List ℕ) → IsToldPath l.acts l.to l.at path → IsToldPath l.acts l.to l.from (l.chain.items ++ path);
  some : (path : List ℕ) → IsPath l.acts l.to l.from path → (rest : List ℕ) × IsPath l.acts l.to l.at rest;
}

abbrev pub decreases-loop-at : goal.decreases-loop-at
decreases-loop-at l = l.to - l.at
