-- The line is what was kept.
use Rattle.std.proofs.Common.{refl}
use Rattle.lrc_races_front.proofs.FrontLemmas.{completed, rest_bad}
use Rattle.lrc_races_front.proofs.front.Front.complete.Goals as goal

pub returns-in-Ok-clause-ok : goal.returns-in-Ok-clause-ok
returns-in-Ok-clause-ok g c = completed g.K.Keep.has_kept c.args.self.now _ _ _ c.in_ok-number.ensures.ok c.in-Ok.ensures.ok c.as_slice.ensures.value refl refl
    c.clear.ensures.items refl

pub returns-in-Err-clause-bad : goal.returns-in-Err-clause-bad
returns-in-Err-clause-bad g c = rest_bad g.K.Keep.has_kept c.args.self.now _ _ _ _ c.in_ok-number.ensures.ok c.in-Err.ensures.bad c.as_slice.ensures.value
