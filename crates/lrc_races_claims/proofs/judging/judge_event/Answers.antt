-- The mark of the access says whether it races.
use Rattle.std.proofs.Common.{◌∙◌, sym, arith}
use Rattle.lrc_races_trace.proofs.Positions.{At-within}
use Rattle.lrc_races_claims.specs.Truth.{event_lacks}
use Rattle.lrc_races_claims.proofs.Judged.{races_event, free_event}
use Rattle.lrc_races_claims.proofs.judging.judge_event.Goals as goal

pub index-requires : goal.index-requires
index-requires c =
    let within = At-within c.in-Ok.ensures.is.at in
    let long = c.requires.facts.1.marked.long in
    omega (arith, c.args.facts.now.marks.ok.0)

pub returns-then-index : goal.returns-then-index
returns-then-index c = λ sought naming are.
    races_event sought naming c.args.events.now c.args.last c.args.line c.in-Ok.access c.in-Ok.ensures c.args.facts.now.marks.items are.marked _
    (sym c.index.ensures ∙ c.if-index.true)

pub returns-else-index : goal.returns-else-index
returns-else-index c = λ sought naming are.
    free_event sought naming c.args.events.now c.args.last c.args.line c.in-Ok.access c.in-Ok.ensures c.args.facts.now.marks.items are.marked _
    (sym c.index.ensures ∙ c.if-index.false)

pub returns-in-Err : goal.returns-in-Err
returns-in-Err c = λ sought naming are. event_lacks c.in-Err.ensures
