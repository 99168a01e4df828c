-- The judge is of the trace.
use Rattle.std.proofs.Common.{List, subst, sym}
use Rattle.std.proofs.lemmas.Result.{IfOk-weaker}
use Rattle.lrc_races_trace.specs.declared.event.Event.{Event}
use Rattle.lrc_races_text.specs.Tables.{naming_of}
use Rattle.lrc_races_missed.specs.Missed.{AreNumbered}
use Rattle.lrc_races_witness.specs.Relations.{AreByLine}
use Rattle.lrc_races_scored.specs.Scored.{HasScored}
use Rattle.lrc_races_scored.proofs.score.push_score.Goals as goal

pub push_by-requires-clause-by_line : goal.push_by-requires-clause-by_line
push_by-requires-clause-by_line c = subst AreByLine (sym c.as_slice.ensures.value) c.requires

pub push_by-requires-clause-judge : goal.push_by-requires-clause-judge
push_by-requires-clause-judge c = record {
  sought = c.args.sought;
  naming = naming_of c.args.traced.names;
  last = c.args.last;
  is = c.new-judge.ensures c.as_slice.result.now;
}

pub returns : goal.returns
returns c =
    let naming = naming_of c.args.traced.names in
    IfOk-weaker c.push_by.result _ _ (λ status says numbered.
    subst (λ (events : List Event). HasScored c.args.sought naming events c.args.last c.args.claims.now c.args.text.now.items status c.push_by.new.text.items)
    c.as_slice.ensures.value
    (says naming c.args.last (subst (λ (events : List Event). AreNumbered naming events) (sym c.as_slice.ensures.value) numbered)
    (c.new-judge.ensures c.as_slice.result.now))) c.push_by.ensures
