use Rattle.std.proofs.Common.{arith}
use Rattle.lrc_explore_less.proofs.Steps.{begun_first, begun_on, has_begun}
use Rattle.lrc_explore_less.proofs.less.Less.begin.Goals as goal

pub advance-requires-clause-passing : goal.advance-requires-clause-passing
advance-requires-clause-passing c =
    let task = c.args.task.now in
    let e = c.in_ok-traps.ensures in
    begun_first task _ _ c.in_ok-traps.traps e.found (c.requires.none.reaches _) e.traps c.start_trap-self.ensures e.trapless
    (let some = e.some in omega (arith, some, c.len-last.ensures.len)) c.in_ok-first_places.ensures

pub returns-in-Ok-clause-begun : goal.returns-in-Ok-clause-begun
returns-in-Ok-clause-begun c =
    let task = c.args.task.now in
    let e = c.in_ok-traps.ensures in
    begun_on task _ _ c.in-Ok.ensures.widens
    (has_begun task _ c.in_ok-traps.traps e.start e.traps c.start_trap-self.ensures)

-- ---- where some node computes too long

pub returns-in-Err-TooMany-clause-begun : goal.returns-in-Err-TooMany-clause-begun
returns-in-Err-TooMany-clause-begun c =
    let task = c.args.task.now in
    let e = c.in_ok-traps.ensures in
    begun_on task _ _ (c.in-Err-TooMany.ensures.long c.in-Err-TooMany.field-0-is).widens
    (has_begun task _ c.in_ok-traps.traps e.start e.traps c.start_trap-self.ensures)

pub returns-in-Err-TooMany-clause-less : goal.returns-in-Err-TooMany-clause-less
returns-in-Err-TooMany-clause-less c = (c.in-Err-TooMany.ensures.long c.in-Err-TooMany.field-0-is).less

pub returns-in-Err-TooMany-clause-long : goal.returns-in-Err-TooMany-clause-long
returns-in-Err-TooMany-clause-long c = λ is. (c.in-Err-TooMany.ensures.long c.in-Err-TooMany.field-0-is).long
