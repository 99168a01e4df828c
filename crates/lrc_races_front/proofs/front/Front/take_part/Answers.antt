-- What was kept, and what is new.
use Rattle.lrc_races_front.proofs.FrontLemmas.{part_bad, part_long, part_taken}
use Rattle.lrc_races_front.proofs.front.Front.take_part.Goals as goal

pub returns-in-Ok-clause-ok : goal.returns-in-Ok-clause-ok
returns-in-Ok-clause-ok g c = part_taken g.K.Keep.has_kept c.args.self.now _ _ c.args.part.now _ c.in-Ok.ensures.ok c.complete.ensures.ok

pub returns-in-Ok-clause-bad : goal.returns-in-Ok-clause-bad
returns-in-Ok-clause-bad g c = part_bad g.K.Keep.has_kept c.args.self.now _ _ c.args.part.now _ c.in-Ok.ensures.ok c.complete.ensures.bad

pub returns-in-Err-clause-bad : goal.returns-in-Err-clause-bad
returns-in-Err-clause-bad g c = part_long g.K.Keep.has_kept c.args.self.now _ c.args.part.now _ c.in-Err.ensures.bad
