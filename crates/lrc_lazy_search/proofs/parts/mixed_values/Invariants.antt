-- What came so far is mixed in.
use Rattle.std.proofs.Common.{◌≡◌, fold, take}
use Rattle.lrc_lazy_search.specs.CommonHash.{mix}
use Rattle.lrc_lazy_search.proofs.parts.mixed_values.Given as goal

abbrev pub invariant-loop-value : goal.invariant-loop-value
invariant-loop-value l = l.mixed ≡ fold mix l.initial.all (take l.value-index l.values)
