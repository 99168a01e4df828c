use Rattle.std.proofs.Common.{length, refl}
use Rattle.lrc_copies.proofs.Timing.{repaired_fits}
use Rattle.lrc_copies.proofs.times.repairing_reaches_a_later_time.Goals as goal

pub returns : goal.returns
returns g c = λ s wrote changes nodes all since upto missing copy stamped sound since_cut upto_cut rises lacking.
    repaired_fits s wrote changes all since upto rises nodes stamped since_cut upto_cut (length copy) missing lacking copy refl sound
