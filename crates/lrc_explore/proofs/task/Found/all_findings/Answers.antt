use Rattle.std.proofs.Common.{false, sym, subst}
use Rattle.std.proofs.lemmas.Bool.{true≢false}
use Rattle.lrc_explore.specs.Answers.{FitsEnd, FitsSettled, IsEnd}
use Rattle.lrc_explore.specs.Met.{FitsSought, IsSought}
use Rattle.lrc_explore.proofs.Fitting.{fits_settled, ok_all}
use Rattle.lrc_explore.proofs.Keys.{start_grown}
use Rattle.lrc_explore.proofs.Seeking.{cut_short}
use Rattle.lrc_explore.proofs.task.Found.all_findings.Goals as goal

pub findings_told-requires-clause-all : goal.findings_told-requires-clause-all
findings_told-requires-clause-all c =
    let task = c.args.task.now in
    let new = c.seek.new.self in
    let e = c.in_ok-sought.ensures in
    let end = subst (IsEnd task new false) c.in-Through.is (subst (IsSought task new false) c.in-Ended.is e.sought) in
    record {
      start = start_grown task c.begin.new.self.table.rows new.table.rows e.more.rows c.in_ok-traps.ensures.start;
      expanded = end.expanded;
    }

pub findings_told-requires-clause-stuck : goal.findings_told-requires-clause-stuck
findings_told-requires-clause-stuck c =
    let task = c.args.task.now in
    let new = c.seek.new.self in
    let at = subst (IsSought task new false) c.in-Ended.is c.in_ok-sought.ensures.sought in
    (subst (IsEnd task new false) c.in-Through.is at).halted

pub findings_told-requires-clause-trap : goal.findings_told-requires-clause-trap
findings_told-requires-clause-trap c =
    let task = c.args.task.now in
    let new = c.seek.new.self in
    let at = subst (IsSought task new false) c.in-Ended.is c.in_ok-sought.ensures.sought in
    (subst (IsEnd task new false) c.in-Through.is at).traps

pub unreachable-requires : goal.unreachable-requires
unreachable-requires c =
    let task = c.args.task.now in
    let new = c.seek.new.self in
    let at = subst (IsSought task new false) c.in-Ended.is c.in_ok-sought.ensures.sought in
    true≢false (sym (subst (IsEnd task new false) c.in-Meeting.is at).3)

pub returns-in-Through-clause-fits : goal.returns-in-Through-clause-fits
returns-in-Through-clause-fits c =
    let task = c.args.task.now in
    let new = c.seek.new.self in
    let e = c.in_ok-sought.ensures in
    let end = subst (IsEnd task new false) c.in-Through.is (subst (IsSought task new false) c.in-Ended.is e.sought) in
    let few = subst (FitsEnd task new) c.in-Through.is (subst (FitsSought task new) c.in-Ended.is e.fits) in
    let start = start_grown task c.begin.new.self.table.rows new.table.rows e.more.rows c.in_ok-traps.ensures.start in
    ok_all c.findings_told.result (λ v. FitsSettled task.program.now task.flat.nodes task.most)
    (λ v. fits_settled task new.table.rows task.most e.found.reached start end.expanded few)

pub returns-in-Many-clause-faults : goal.returns-in-Many-clause-faults
returns-in-Many-clause-faults c =
    let many = subst (IsSought c.args.task.now c.seek.new.self false) c.in-Many.is c.in_ok-sought.ensures.sought in
    cut_short c.args.task.now c.seek.new.self false c.in_ok-sought.ensures.found many.cut many.calm
