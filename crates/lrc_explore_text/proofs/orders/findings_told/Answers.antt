use Rattle.std.proofs.Common.{false, subst}
use Rattle.std.specs.Prelude.{map}
use Rattle.lrc_explain_waits.specs.Traps.{wording_of}
use Rattle.lrc_text.specs.Parts.{whole_text}
use Rattle.lrc_explore_less.specs.Met.{IsSearched}
use Rattle.lrc_explore_text.proofs.Telling.{of_found}
use Rattle.lrc_explore_text.proofs.orders.findings_told.Goals as goal

pub found_told-requires-clause-found : goal.found_told-requires-clause-found
found_told-requires-clause-found c = subst (IsSearched c.args.program.now c.args.nodes c.args.most) c.in-All.is c.in_ok-found.ensures.findings

pub returns-in_ok-printout-in-All-clause-ok : goal.returns-in_ok-printout-in-All-clause-ok
returns-in_ok-printout-in-All-clause-ok c =
    let printout = c.in_ok-printout-in-All.printout in
    of_found (wording_of c.args.wording.now) c.args.program.now c.args.nodes c.args.lines.now (whole_text printout.parts.items) printout.status
    c.in_ok-printout-in-All.ensures

pub met_told-requires-clause-gave : goal.met_told-requires-clause-gave
met_told-requires-clause-gave c =
    (c.args.most, false, (subst (IsSearched c.args.program.now c.args.nodes c.args.most) c.in-Many.is c.in_ok-found.ensures.findings).0)

pub returns-in_ok-parts-in-Many-clause-ok : goal.returns-in_ok-parts-in-Many-clause-ok
returns-in_ok-parts-in-Many-clause-ok c = record {
  met = c.in-Many.met;
  gave = (subst (IsSearched c.args.program.now c.args.nodes c.args.most) c.in-Many.is c.in_ok-found.ensures.findings).0;
  says = c.in_ok-parts-in-Many.ensures;
}
