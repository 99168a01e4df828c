-- What the deeds so far lead to is there.
use Rattle.std.proofs.Common.{◌≡◌, ◌<◌, ℕ}
use Rattle.std.specs.Prelude.{Some, slice_get}
use Rattle.lrc_trace.specs.declared.act.Deed.{Deed}
use Rattle.lrc_orders.specs.Kept.{Grows}
use Rattle.lrc_lazy_run.specs.Ways.{AreWays, HasStepAt}
use Rattle.lrc_lazy_run.proofs.ways.Ways.add_of.Given as goal

abbrev pub invariant-loop-index : goal.invariant-loop-index
invariant-loop-index l = record {
  ways : AreWays l.sought l.self;
  grows : Grows l.initial.self.states.keys l.self.states.keys;
  done : (k : ℕ) (deed : Deed) → k < l.index → slice_get l.deeds.items k ≡ Some deed
      → HasStepAt l.sought.flat l.self.states.keys l.place l.node deed;
}
