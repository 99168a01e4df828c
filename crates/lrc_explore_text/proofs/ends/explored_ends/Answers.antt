use Rattle.std.proofs.Common.{map, subst, sym}
use Rattle.lrc_explain_waits.specs.Traps.{wording_of}
use Rattle.lrc_text.specs.Parts.{whole_text}
use Rattle.lrc_explore.specs.Answers.{FitsSettled}
use Rattle.lrc_orders.specs.Verdict.{EndsInRace}
use Rattle.lrc_explore_ends.specs.declared.answers.EndVerdict.{EndVerdict}
use Rattle.lrc_explore_ends.specs.Answers.{GoesThrough, IsEndAnswer}
use Rattle.lrc_explore_text.proofs.Ending.{told_raced}
use Rattle.lrc_explore_text.proofs.ends.explored_ends.Goals as goal

pub through_told-requires-clause-free : goal.through_told-requires-clause-free
through_told-requires-clause-free c =
    (subst (IsEndAnswer c.args.program.now c.args.nodes c.args.most c.args.races) c.in-Through.is c.in_ok-found.ensures.answer).0

pub through_told-requires-clause-found : goal.through_told-requires-clause-found
through_told-requires-clause-found c =
    (subst (IsEndAnswer c.args.program.now c.args.nodes c.args.most c.args.races) c.in-Through.is c.in_ok-found.ensures.answer).1

pub returns-in_ok-printout-in-Through-clause-fits : goal.returns-in_ok-printout-in-Through-clause-fits
returns-in_ok-printout-in-Through-clause-fits c = λ status.
    subst (λ (v : EndVerdict). GoesThrough v → FitsSettled c.args.program.now c.args.nodes c.args.most) c.in-Through.is c.in_ok-found.ensures.fits tt

pub race_told-requires-clause-ends : goal.race_told-requires-clause-ends
race_told-requires-clause-ends c =
    subst (EndsInRace c.args.program.now c.args.nodes) (sym c.deref.ensures.value)
    (subst (IsEndAnswer c.args.program.now c.args.nodes c.args.most c.args.races) c.in-Racy.is c.in_ok-found.ensures.answer).1

pub returns-in_ok-printout-in-Racy-clause-ok : goal.returns-in_ok-printout-in-Racy-clause-ok
returns-in_ok-printout-in-Racy-clause-ok c =
    let is = subst (IsEndAnswer c.args.program.now c.args.nodes c.args.most c.args.races) c.in-Racy.is c.in_ok-found.ensures.answer in
    let printout = c.in_ok-printout-in-Racy.printout in
    let e = c.in_ok-printout-in-Racy.ensures in
    told_raced (wording_of c.args.wording.now) c.args.program.now c.args.nodes c.args.lines.now c.args.races is.0 (whole_text printout.parts.items)
    printout.status e.ok e.status

pub returns-in_ok-printout-in-Racy-clause-fits : goal.returns-in_ok-printout-in-Racy-clause-fits
returns-in_ok-printout-in-Racy-clause-fits c = λ other. absurd (other c.in_ok-printout-in-Racy.ensures.status)

pub met_told-requires-clause-gave : goal.met_told-requires-clause-gave
met_told-requires-clause-gave c =
    (c.args.most, c.args.races, subst (IsEndAnswer c.args.program.now c.args.nodes c.args.most c.args.races) c.in-Many.is c.in_ok-found.ensures.answer)

pub returns-in_ok-parts-in-Many-clause-ok : goal.returns-in_ok-parts-in-Many-clause-ok
returns-in_ok-parts-in-Many-clause-ok c = record {
  met = c.in-Many.met;
  gave = subst (IsEndAnswer c.args.program.now c.args.nodes c.args.most c.args.races) c.in-Many.is c.in_ok-found.ensures.answer;
  says = c.in_ok-parts-in-Many.ensures;
}
