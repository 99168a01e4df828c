-- A join may level the chunk of the thread that is joined; else nothing is done.
use Rattle.std.proofs.Common.{◌/◌, inl, refl}
use Rattle.std.proofs.lemmas.Result.{on_ok_weaker}
use Rattle.lrc_races_detector.proofs.detector.level.Goals as goal

pub returns-then-branch : goal.returns-then-branch
returns-then-branch c = on_ok_weaker c.level.result (λ levelled. (c.in-Join.other / 128, levelled)) c.level.ensures

pub returns-else-branch : goal.returns-else-branch
returns-else-branch c = (0, record { here = λ thread. inl refl; others = λ other ne. refl })

pub returns-in_default : goal.returns-in_default
returns-in_default c = (0, record { here = λ thread. inl refl; others = λ other ne. refl })
