-- The starts are those of the positions so far.
use Rattle.std.proofs.Common.{◌≡◌, ℕ, ◌<◌, ◌≤◌, length, get_or, vec_len}
use Rattle.std.specs.Prelude.{None}
use Rattle.lrc_trace.specs.Order.{Precedes}
use Rattle.lrc_why_chains.specs.Starts.{IsBest}
use Rattle.lrc_why_chains.specs.Onward.{IsOnward}
use Rattle.lrc_why_chains.proofs.chains.starts_from.Given as goal

abbrev pub invariant-loop-position : goal.invariant-loop-position
invariant-loop-position l = record {
  most : vec_len l.onward.departs ≡ length l.acts;
  starts : IsOnward l.acts l.to l.position l.onward;
  all : length l.next.items ≡ l.to;
  best : (k : ℕ) → l.position ≤ k → k < l.to → IsBest l.acts l.to (λ m. Precedes l.acts k m) (get_or l.next.items k None);
}
