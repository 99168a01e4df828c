-- All are next ones, those of the deeds so far are there, none is lost, and they are neat and count no barriers that are gone, as those before.
use Rattle.std.proofs.Common.{◌≡◌, ℕ, ◌<◌}
use Rattle.std.specs.Prelude.{Some, slice_get}
use Rattle.lrc_trace.specs.declared.act.Deed.{Deed}
use Rattle.lrc_orders.specs.Kept.{Grows}
use Rattle.lrc_lazy_search.specs.Searching.{AreNeat, AreNext, CountNoneGone, HasStep, IsNeat}
use Rattle.lrc_lazy_search.proofs.state.LazyState.nexts_of.Given as goal

abbrev pub invariant-loop-place : goal.invariant-loop-place
invariant-loop-place l = record {
  sound : AreNext l.flat l.self l.all.items;
  grows : Grows l.initial.all.items l.all.items;
  done : (k : ℕ) (deed : Deed) → k < l.place → slice_get l.deeds.items k ≡ Some deed → HasStep l.flat l.self l.node deed l.all.items;
  neat : IsNeat l.flat l.self → AreNeat l.flat l.initial.all.items → AreNeat l.flat l.all.items;
  left : 0 < l.flat.nodes → CountNoneGone l.flat l.initial.all.items → CountNoneGone l.flat l.all.items;
}
