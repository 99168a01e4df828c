use Rattle.std.proofs.Common.{subst, true}
use Rattle.std.specs.Prelude.{map}
use Rattle.lrc_explore_less.specs.Met.{IsExplored}
use Rattle.lrc_explore_text.proofs.orders.orders_told.Goals as goal

pub verdict_told-requires-clause-verdict : goal.verdict_told-requires-clause-verdict
verdict_told-requires-clause-verdict c = subst (IsExplored c.args.program.now c.args.nodes c.args.most) c.in-Told.is c.in_ok-verdict.ensures.answer

pub met_told-requires-clause-gave : goal.met_told-requires-clause-gave
met_told-requires-clause-gave c =
    (c.args.most, true, subst (IsExplored c.args.program.now c.args.nodes c.args.most) c.in-Many.is c.in_ok-verdict.ensures.answer)

pub returns-in_ok-parts-in-Many-clause-ok : goal.returns-in_ok-parts-in-Many-clause-ok
returns-in_ok-parts-in-Many-clause-ok c = record {
  met = c.in-Many.met;
  gave = subst (IsExplored c.args.program.now c.args.nodes c.args.most) c.in-Many.is c.in_ok-verdict.ensures.answer;
  says = c.in_ok-parts-in-Many.ensures;
}
