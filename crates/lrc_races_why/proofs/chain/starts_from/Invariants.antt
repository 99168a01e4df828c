-- The starts are those of the positions so far.
use Rattle.std.proofs.Common.{◌≡◌, ℕ, ◌<◌, ◌≤◌, length, get_or}
use Rattle.std.specs.Prelude.{None}
use Rattle.lrc_races_trace.specs.Order.{Precedes}
use Rattle.lrc_chains.specs.Starts.{IsBest}
use Rattle.lrc_races_why.specs.Onward.{IsOnward}
use Rattle.lrc_races_why.proofs.chain.starts_from.Given as goal

abbrev pub invariant-loop-position : goal.invariant-loop-position
invariant-loop-position l = record {
  starts : IsOnward l.events l.to l.position l.onward;
  all : length l.next.items ≡ l.to;
  best : (k : ℕ) → l.position ≤ k → k < l.to → IsBest (Precedes l.events) l.to (λ m. Precedes l.events k m) (get_or l.next.items k None);
}
