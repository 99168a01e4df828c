-- One line more is kept and noted, or it is bad.
use Rattle.std.proofs.Common.{ap}
use Rattle.lrc_races_notes.proofs.noting.NotingKeep.take.Goals as goal

pub returns-in-Ok-clause-ok : goal.returns-in-Ok-clause-ok
returns-in-Ok-clause-ok g c sought lines counted h = (c.in-Ok.ensures.ok sought lines counted h.0, c.note.ensures lines counted h.1)

pub returns-in-Err-clause-bad : goal.returns-in-Err-clause-bad
returns-in-Err-clause-bad g c =
    let bad = c.in-Err.ensures.bad in
    record { fails = bad.fails; same = λ other why e. ap (λ kept. record c.args.self.now { kept = kept }) (bad.same other why e) }
