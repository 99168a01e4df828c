use Rattle.std.proofs.Common.{subst, true}
use Rattle.lrc_explore_less.specs.Met.{IsExplored}
use Rattle.lrc_explore_events_text.proofs.told.verdict_shown.Goals as goal

pub of_verdict-requires-clause-verdict : goal.of_verdict-requires-clause-verdict
of_verdict-requires-clause-verdict c = subst (IsExplored c.args.program.now c.args.nodes c.args.most) c.in-Told.is c.in_ok-verdict.ensures.answer

pub met_shown-requires-clause-gave : goal.met_shown-requires-clause-gave
met_shown-requires-clause-gave c =
    (c.args.most, true, subst (IsExplored c.args.program.now c.args.nodes c.args.most) c.in-Many.is c.in_ok-verdict.ensures.answer)

pub returns-in_ok-text-in-Many-clause-shows : goal.returns-in_ok-text-in-Many-clause-shows
returns-in_ok-text-in-Many-clause-shows c = record {
  met = c.in-Many.met;
  gave = subst (IsExplored c.args.program.now c.args.nodes c.args.most) c.in-Many.is c.in_ok-verdict.ensures.answer;
  shows = c.in_ok-text-in-Many.ensures;
}
