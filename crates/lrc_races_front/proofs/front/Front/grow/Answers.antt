-- The line is too long.
use Rattle.std.proofs.Common.{refl}
use Rattle.lrc_races_front.proofs.FrontLemmas.{too_long}
use Rattle.lrc_races_front.proofs.front.Front.grow.Goals as goal

pub returns-then-is_too_long-clause-bad : goal.returns-then-is_too_long-clause-bad
returns-then-is_too_long-clause-bad g c = too_long g.K.Keep.has_kept c.args.self.now _ c.args.part.now _ _ c.in_ok-number.ensures.ok
    (c.is_too_long.ensures.0 c.if-is_too_long.true) c.bad_event.ensures refl
