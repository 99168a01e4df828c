use Rattle.std.proofs.Common.{true, take}
use Rattle.lrc_weave.specs.Matched.{own_in, own_puts}
use Rattle.lrc_weave.specs.Compared.{AreOwnNext}
use Rattle.lrc_weave.proofs.owner.are_puts_next.Given as goal

abbrev pub invariant-loop-envelope : goal.invariant-loop-envelope
invariant-loop-envelope l =
    AreOwnNext (own_puts l.owner (take l.envelope-index l.out)) (own_in l.owner l.initial.rest.now) (own_in l.owner l.rest.now) true
