-- The chain so far goes on to what is told from here.
use Rattle.std.proofs.Common.{ℕ, ◌-◌, ◌≤◌, List, ◌++◌}
use Rattle.lrc_races_trace.specs.Order.{Precedes}
use Rattle.lrc_chains.specs.Starts.{IsPath, IsToldPath}
use Rattle.lrc_races_why.proofs.chain.follow.Given as goal

abbrev pub invariant-loop-at : goal.invariant-loop-at
invariant-loop-at l = record {
  first : l.from ≤ l.at;
  last : l.at ≤ l.to;
  told : (path : List ℕ) → IsToldPath (Precedes l.events) l.to l.at path → IsToldPath (Precedes l.events) l.to l.from (l.chain.items ++ path);
  some : (path : List ℕ) → IsPath (Precedes l.events) l.to l.from path → (rest : List ℕ) × IsPath (Precedes l.events) l.to l.at rest;
}

abbrev pub decreases-loop-at : goal.decreases-loop-at
decreases-loop-at l = l.to - l.at
