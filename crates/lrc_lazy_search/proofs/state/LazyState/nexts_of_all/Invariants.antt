-- All are next ones, those of the nodes so far are there, and they are neat and count no barriers that are gone.
use Rattle.std.proofs.Common.{ℕ, ◌<◌}
use Rattle.lrc_lazy_search.specs.Searching.{AreNeat, AreNext, CountNoneGone, HasAll, IsNeat}
use Rattle.lrc_lazy_search.proofs.state.LazyState.nexts_of_all.Given as goal

abbrev pub invariant-loop-node : goal.invariant-loop-node
invariant-loop-node l = record {
  sound : AreNext l.flat l.self l.all.items;
  done : (n : ℕ) → n < l.node → HasAll l.flat l.self n l.all.items;
  neat : IsNeat l.flat l.self → AreNeat l.flat l.all.items;
  left : 0 < l.flat.nodes → CountNoneGone l.flat l.all.items;
}
