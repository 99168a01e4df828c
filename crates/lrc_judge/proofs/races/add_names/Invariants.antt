-- The races of the pairs so far are added.
use Rattle.std.proofs.Common.{take}
use Rattle.lrc_judge.specs.Adding.{Adds, IsOfSome}
use Rattle.lrc_judge.specs.Races.{IsNameOf}
use Rattle.lrc_judge.proofs.races.add_names.Given as goal

abbrev pub invariant-loop-pair : goal.invariant-loop-pair
invariant-loop-pair l = Adds l.fn.races.items l.races.items (IsOfSome (take l.pair-index l.pairs) (IsNameOf l.acts l.intervals))
