use Rattle.std.proofs.Common.{true, take}
use Rattle.std.specs.Prelude.{flat_map}
use Rattle.lrc_weave.specs.Matched.{own_in, own_of}
use Rattle.lrc_weave.specs.Compared.{AreOwnNext}
use Rattle.lrc_weave.proofs.owner.are_own.Given as goal

abbrev pub invariant-loop-entry : goal.invariant-loop-entry
invariant-loop-entry l =
    AreOwnNext (flat_map (own_of l.owner) (take l.entry-index l.log)) (own_in l.owner l.history) (own_in l.owner l.rest) true
