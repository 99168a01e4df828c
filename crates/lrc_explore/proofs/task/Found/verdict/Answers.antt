use Rattle.std.proofs.Common.{true, refl, subst}
use Rattle.std.proofs.lemmas.Result.{IfOk-weaker}
use Rattle.lrc_orders.specs.declared.search.Verdict.{Verdict}
use Rattle.lrc_orders.specs.Verdict.{FindsNoRace}
use Rattle.lrc_explore.specs.Answers.{FitsEnd, FitsSettled, IsEnd}
use Rattle.lrc_explore.proofs.Fitting.{fits_settled}
use Rattle.lrc_explore.proofs.Reaching.{no_race}
use Rattle.lrc_explore.proofs.task.Found.verdict.Goals as goal

pub findings_told-requires-clause-all : goal.findings_told-requires-clause-all
findings_told-requires-clause-all c =
    let end = subst (IsEnd c.args.task.now c.args.self.now true) c.in-Through.is c.requires.end in
    record { start = c.requires.start; expanded = end.expanded }

pub findings_told-requires-clause-stuck : goal.findings_told-requires-clause-stuck
findings_told-requires-clause-stuck c = (subst (IsEnd c.args.task.now c.args.self.now true) c.in-Through.is c.requires.end).halted

pub findings_told-requires-clause-trap : goal.findings_told-requires-clause-trap
findings_told-requires-clause-trap c = (subst (IsEnd c.args.task.now c.args.self.now true) c.in-Through.is c.requires.end).traps

pub returns-in_ok-findings-in-Through-clause-answer : goal.returns-in_ok-findings-in-Through-clause-answer
returns-in_ok-findings-in-Through-clause-answer c =
    let task = c.args.task.now in
    let found = c.args.self.now in
    let end = subst (IsEnd task found true) c.in-Through.is c.requires.end in
    (no_race task found.table.rows c.requires.found.reached c.requires.start end.expanded (end.calm refl), c.in_ok-findings-in-Through.ensures.findings)

pub returns-in_ok-findings-in-Through-clause-fits : goal.returns-in_ok-findings-in-Through-clause-fits
returns-in_ok-findings-in-Through-clause-fits c =
    let task = c.args.task.now in
    let found = c.args.self.now in
    let end = subst (IsEnd task found true) c.in-Through.is c.requires.end in
    let few = subst (FitsEnd task found) c.in-Through.is c.requires.few in
    λ free. fits_settled task found.table.rows task.most c.requires.found.reached c.requires.start end.expanded few

pub returns-in-Meeting-clause-fits : goal.returns-in-Meeting-clause-fits
returns-in-Meeting-clause-fits c =
    let task = c.args.task.now in
    IfOk-weaker c.race_told.result (λ (v : Verdict). FindsNoRace v → ⊥) (λ v. FindsNoRace v → FitsSettled task.program.now task.flat.nodes task.most)
    (λ v no free. absurd (no free)) c.race_told.ensures.racy
