use Rattle.std.proofs.Common.{false, refl, subst, sym, true}
use Rattle.lrc_explore.specs.Answers.{IsAnswer}
use Rattle.lrc_orders.specs.Verdict.{EndsInRace}
use Rattle.lrc_explore_events_text.proofs.Lined.{of_free, of_raced}
use Rattle.lrc_explore_events_text.proofs.told.of_verdict.Goals as goal

pub found_shown-requires-clause-found : goal.found_shown-requires-clause-found
found_shown-requires-clause-found c = (subst (IsAnswer c.args.program.now c.args.nodes) c.in-RaceFree.is c.requires.verdict).1

pub found_shown-requires-clause-end : goal.found_shown-requires-clause-end
found_shown-requires-clause-end c = (false, refl)

pub returns-in-RaceFree-clause-shows : goal.returns-in-RaceFree-clause-shows
returns-in-RaceFree-clause-shows c =
    let is = subst (IsAnswer c.args.program.now c.args.nodes) c.in-RaceFree.is c.requires.verdict in
    of_free c.args.program.now c.args.nodes true false c.args.line (λ e. is.0) c.found_shown.result (c.found_shown.ensures false refl)

pub race_shown-requires-clause-ends : goal.race_shown-requires-clause-ends
race_shown-requires-clause-ends c =
    subst (EndsInRace c.args.program.now c.args.nodes) (sym c.deref.ensures.value) (subst (IsAnswer c.args.program.now c.args.nodes) c.in-Racy.is c.requires.verdict)

pub returns-in-Racy-clause-shows : goal.returns-in-Racy-clause-shows
returns-in-Racy-clause-shows c =
    of_raced c.args.program.now c.args.nodes true false c.args.line _ refl (subst (IsAnswer c.args.program.now c.args.nodes) c.in-Racy.is c.requires.verdict)
    c.race_shown.result c.race_shown.ensures.shows c.race_shown.ensures.status
