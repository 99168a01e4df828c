use Rattle.std.proofs.Common.{Bool, refl, sym, subst}
use Rattle.std.specs.Prelude.{IfOk}
use Rattle.std.proofs.lemmas.Result.{IfOk-weaker}
use Rattle.lrc_explore.specs.Answers.{FitsEnd, FitsSettled, IsEnd}
use Rattle.lrc_explore.specs.Met.{FitsSought, IsSought}
use Rattle.lrc_explore.proofs.Fitting.{fits_settled}
use Rattle.lrc_explore.proofs.Reaching.{no_race}
use Rattle.lrc_explore_ends.specs.declared.answers.EndVerdict.{EndVerdict}
use Rattle.lrc_explore_ends.specs.Answers.{GoesThrough, IsTaskEndAnswer}
use Rattle.lrc_explore_ends.proofs.Answering.{through_anyhow}
use Rattle.lrc_explore_ends.proofs.answers.answer_of.Goals as goal

pub race_of-requires-clause-meeting : goal.race_of-requires-clause-meeting
race_of-requires-clause-meeting c =
    let task = c.args.task.now in
    let at = subst (IsSought task c.args.found c.args.races) c.in-Ended.is c.requires.sought in
    let end = subst (IsEnd task c.args.found c.args.races) c.in-Meeting.is at in (end.0, end.1, end.2, refl)

pub returns-in-Meeting-clause-answer : goal.returns-in-Meeting-clause-answer
returns-in-Meeting-clause-answer c =
    let task = c.args.task.now in
    let at = subst (IsSought task c.args.found c.args.races) c.in-Ended.is c.requires.sought in
    let end = subst (IsEnd task c.args.found c.args.races) c.in-Meeting.is at in
    subst (λ (b : Bool). IfOk c.race_of.result (IsTaskEndAnswer task b)) (sym end.3) c.race_of.ensures.answer

pub returns-in-Meeting-clause-fits : goal.returns-in-Meeting-clause-fits
returns-in-Meeting-clause-fits c =
    let task = c.args.task.now in
    IfOk-weaker c.race_of.result (λ (v : EndVerdict). GoesThrough v → ⊥)
    (λ v. GoesThrough v → FitsSettled task.program.now task.flat.nodes task.most) (λ v no through. absurd (no through)) c.race_of.ensures.racy

pub through-requires-clause-all : goal.through-requires-clause-all
through-requires-clause-all c =
    let task = c.args.task.now in
    let end = subst (IsEnd task c.args.found c.args.races) c.in-Through.is (subst (IsSought task c.args.found c.args.races) c.in-Ended.is c.requires.sought) in
    record { start = c.requires.start; expanded = end.expanded }

pub through-requires-clause-through : goal.through-requires-clause-through
through-requires-clause-through c =
    let task = c.args.task.now in
    let at = subst (IsSought task c.args.found c.args.races) c.in-Ended.is c.requires.sought in
    through_anyhow task c.args.found c.args.races c.in-Through.stuck c.in-Through.trap (subst (IsEnd task c.args.found c.args.races) c.in-Through.is at)

pub returns-in_ok-ends-in-Through-clause-answer : goal.returns-in_ok-ends-in-Through-clause-answer
returns-in_ok-ends-in-Through-clause-answer c =
    let task = c.args.task.now in
    let end = subst (IsEnd task c.args.found c.args.races) c.in-Through.is (subst (IsSought task c.args.found c.args.races) c.in-Ended.is c.requires.sought) in (
      λ looked. no_race task c.args.found.table.rows c.requires.found.reached c.requires.start end.expanded (end.calm looked),
      c.in_ok-ends-in-Through.ensures.findings,
    )

pub returns-in_ok-ends-in-Through-clause-fits : goal.returns-in_ok-ends-in-Through-clause-fits
returns-in_ok-ends-in-Through-clause-fits c = λ through.
    let task = c.args.task.now in
    let end = subst (IsEnd task c.args.found c.args.races) c.in-Through.is (subst (IsSought task c.args.found c.args.races) c.in-Ended.is c.requires.sought) in
    let few = subst (FitsEnd task c.args.found) c.in-Through.is (subst (FitsSought task c.args.found) c.in-Ended.is c.requires.few) in
    fits_settled task c.args.found.table.rows task.most c.requires.found.reached c.requires.start end.expanded few

pub many_of-requires-clause-many : goal.many_of-requires-clause-many
many_of-requires-clause-many c = subst (IsSought c.args.task.now c.args.found c.args.races) c.in-Many.is c.requires.sought

pub returns-in-Many-clause-fits : goal.returns-in-Many-clause-fits
returns-in-Many-clause-fits c =
    let task = c.args.task.now in
    IfOk-weaker c.many_of.result (λ (v : EndVerdict). GoesThrough v → ⊥)
    (λ v. GoesThrough v → FitsSettled task.program.now task.flat.nodes task.most) (λ v no through. absurd (no through)) c.many_of.ensures.many
