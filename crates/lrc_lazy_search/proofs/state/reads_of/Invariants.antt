-- The reads of the values so far.
use Rattle.std.proofs.Common.{◌≡◌, map, take}
use Rattle.lrc_trace.specs.declared.act.Deed.TheVariants.{Read}
use Rattle.lrc_lazy_search.proofs.state.reads_of.Given as goal

abbrev pub invariant-loop-value : goal.invariant-loop-value
invariant-loop-value l = l.deeds.items ≡ map (λ value. Read l.word value) (take l.value-index l.values)
