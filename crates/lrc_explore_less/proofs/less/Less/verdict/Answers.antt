use Rattle.std.proofs.Common.{true, refl, subst}
use Rattle.lrc_explore_less.specs.Enough.{IsEnd}
use Rattle.lrc_explore_less.proofs.Enough.{never_races}
use Rattle.lrc_explore_less.proofs.less.Less.verdict.Goals as goal

pub race_told-requires-clause-meeting : goal.race_told-requires-clause-meeting
race_told-requires-clause-meeting c = subst (IsEnd c.args.task.now c.args.self.now true) c.in-Meeting.is c.requires.end

pub findings_told-requires-clause-through : goal.findings_told-requires-clause-through
findings_told-requires-clause-through c = (subst (IsEnd c.args.task.now c.args.self.now true) c.in-Through.is c.requires.end).0

pub returns-in_ok-findings-in-Through-clause-answer : goal.returns-in_ok-findings-in-Through-clause-answer
returns-in_ok-findings-in-Through-clause-answer c =
    let task = c.args.task.now in
    let less = c.args.self.now in
    let end = subst (IsEnd task less true) c.in-Through.is c.requires.end in
    (never_races task less c.requires.less c.requires.begun end.0.done (end.1 refl), c.in_ok-findings-in-Through.ensures.findings)
