use Rattle.std.proofs.Common.{subst, sym, true}
use Rattle.lrc_orders.specs.Verdict.{EndsInRace}
use Rattle.lrc_explore_ends.specs.Answers.{IsEndAnswer}
use Rattle.lrc_explore_events_text.specs.Shows.{ShowsLine, free, racy}
use Rattle.lrc_explore_events_text.proofs.told.ends_shown.Goals as goal

pub found_shown-requires-clause-found : goal.found_shown-requires-clause-found
found_shown-requires-clause-found c =
    (subst (IsEndAnswer c.args.program.now c.args.nodes c.args.most c.args.races) c.in-Through.is c.in_ok-found.ensures.answer).1.besides

pub found_shown-requires-clause-end : goal.found_shown-requires-clause-end
found_shown-requires-clause-end c =
    (true, (subst (IsEndAnswer c.args.program.now c.args.nodes c.args.most c.args.races) c.in-Through.is c.in_ok-found.ensures.answer).1.end)

pub returns-in_ok-shown-in-Through-clause-shows : goal.returns-in_ok-shown-in-Through-clause-shows
returns-in_ok-shown-in-Through-clause-shows c =
    let is = subst (IsEndAnswer c.args.program.now c.args.nodes c.args.most c.args.races) c.in-Through.is c.in_ok-found.ensures.answer in
    free is.0 (c.in_ok-shown-in-Through.ensures true is.1.end)

pub race_shown-requires-clause-ends : goal.race_shown-requires-clause-ends
race_shown-requires-clause-ends c =
    subst (EndsInRace c.args.program.now c.args.nodes) (sym c.deref.ensures.value)
    (subst (IsEndAnswer c.args.program.now c.args.nodes c.args.most c.args.races) c.in-Racy.is c.in_ok-found.ensures.answer).1

pub returns-in_ok-shown-in-Racy-clause-shows : goal.returns-in_ok-shown-in-Racy-clause-shows
returns-in_ok-shown-in-Racy-clause-shows c =
    let is = subst (IsEndAnswer c.args.program.now c.args.nodes c.args.most c.args.races) c.in-Racy.is c.in_ok-found.ensures.answer in
    let shown = c.in_ok-shown-in-Racy.shown in
    let e = c.in_ok-shown-in-Racy.ensures in
    subst (ShowsLine c.args.program.now c.args.nodes c.args.races true c.args.line shown.text.items) (sym e.status) (racy _ is.0 is.1 e.shows)

pub met_shown-requires-clause-gave : goal.met_shown-requires-clause-gave
met_shown-requires-clause-gave c =
    (c.args.most, c.args.races, subst (IsEndAnswer c.args.program.now c.args.nodes c.args.most c.args.races) c.in-Many.is c.in_ok-found.ensures.answer)

pub returns-in_ok-text-in-Many-clause-shows : goal.returns-in_ok-text-in-Many-clause-shows
returns-in_ok-text-in-Many-clause-shows c = record {
  met = c.in-Many.met;
  gave = subst (IsEndAnswer c.args.program.now c.args.nodes c.args.most c.args.races) c.in-Many.is c.in_ok-found.ensures.answer;
  shows = c.in_ok-text-in-Many.ensures;
}
