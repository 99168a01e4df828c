use Rattle.lrc_lazy_run.proofs.along.free_act.Goals as goal

pub returns-in-Some : goal.returns-in-Some
returns-in-Some c = c.in_ok-deed.ensures c.in-Some.deed c.in-Some.is
