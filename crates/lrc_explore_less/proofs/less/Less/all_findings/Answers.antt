use Rattle.std.proofs.Common.{false, subst, sym}
use Rattle.std.proofs.lemmas.Bool.{true≢false}
use Rattle.lrc_explore_less.specs.Enough.{IsEnd}
use Rattle.lrc_explore_less.specs.Met.{IsSought, IsTaskSearched}
use Rattle.lrc_explore_less.proofs.Answering.{is_searched}
use Rattle.lrc_explore_less.proofs.less.Less.all_findings.Goals as goal

pub unreachable-requires : goal.unreachable-requires
unreachable-requires c =
    let task = c.args.task.now in
    let new = c.search.new.self in
    let at = subst (IsSought task new false) c.in-Ended.is c.in_ok-sought.ensures.sought in
    true≢false (sym (subst (IsEnd task new false) c.in-Meeting.is at).3)

pub findings_told-requires-clause-through : goal.findings_told-requires-clause-through
findings_told-requires-clause-through c =
    let task = c.args.task.now in
    let new = c.search.new.self in
    let at = subst (IsSought task new false) c.in-Ended.is c.in_ok-sought.ensures.sought in
    (subst (IsEnd task new false) c.in-Through.is at).0

pub met_told-requires-clause-many : goal.met_told-requires-clause-many
met_told-requires-clause-many c =
    subst (IsSought c.args.task.now c.search.new.self false) c.in-Many.is c.in_ok-sought.ensures.sought

pub returns-in_ok-met-in-Many-clause-findings : goal.returns-in_ok-met-in-Many-clause-findings
returns-in_ok-met-in-Many-clause-findings c =
    subst (IsTaskSearched c.args.task.now) (sym c.searched_of.ensures) (is_searched c.args.task.now c.in_ok-met-in-Many.met c.in_ok-met-in-Many.ensures.met)
