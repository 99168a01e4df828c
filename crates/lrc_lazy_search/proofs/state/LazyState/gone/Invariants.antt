-- The nodes so far have departed so often at least, and one of them no more often.
use Rattle.std.proofs.Common.{◌≡◌, ℕ, ◌-◌, ◌<◌, ◌≤◌, ◌^◌}
use Rattle.lrc_exec.specs.States.{plain_at}
use Rattle.lrc_lazy.specs.Standing.{departures_of}
use Rattle.lrc_lazy_search.proofs.state.LazyState.gone.Given as goal

abbrev pub invariant-loop-node : goal.invariant-loop-node
invariant-loop-node l = record {
  most : (n : ℕ) → n < l.node → l.gone ≤ departures_of (plain_at l.flat l.self.state) n;
  whole : l.node ≡ 0 → l.gone ≡ 2 ^ 64 - 1;
  least : 0 < l.node → (n : ℕ) × (n < l.node) × (l.gone ≡ departures_of (plain_at l.flat l.self.state) n);
}
