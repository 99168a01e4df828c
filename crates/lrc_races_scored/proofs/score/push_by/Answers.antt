-- The claims, what is missed, and the sorts.
use Rattle.std.proofs.Common.{◌∙◌, length, ap}
use Rattle.std.proofs.lemmas.Result.{IfOk-weaker}
use Rattle.lrc_races_lines.specs.Table.{names_of}
use Rattle.lrc_races_scored.proofs.ScoreLemmas.{has_scored}
use Rattle.lrc_races_scored.proofs.score.push_by.Goals as goal

pub push_judged-requires : goal.push_judged-requires
push_judged-requires c =
    let some = c.requires.judge in
    ap length c.as_slice.ensures.value ∙ (c.in_ok-verdicts.ensures.judged some.sought some.naming some.last some.is).long

pub missed_of-requires-clause-judge : goal.missed_of-requires-clause-judge
missed_of-requires-clause-judge c =
    let some = c.requires.judge in
    record {
      sought = some.sought;
      naming = some.naming;
      last = some.last;
      is = c.in_ok-verdicts.ensures.stays some.sought some.naming some.last some.is;
    }

pub push_rest-requires : goal.push_rest-requires
push_rest-requires c =
    let some = c.requires.judge in
    ap length c.as_slice-2.ensures.value ∙ (c.in_ok-verdicts.ensures.judged some.sought some.naming some.last some.is).long

pub returns : goal.returns
returns c =
    IfOk-weaker c.push_rest.result _ _ (λ status says naming last numbered is.
    let judged = c.in_ok-verdicts.ensures.stays c.args.sought naming last is in
    let done = c.in_ok-missed.ensures.stays c.args.sought naming last judged in
    has_scored c.args.sought naming c.args.events.now last c.args.claims.now (names_of c.judge_all.new.judge.names.threads)
    c.in_ok-verdicts.verdicts.items c.as_slice.result.now c.as_slice-2.result.now c.in_ok-missed.missed status c.args.text.now.items
    c.push_judged.new.text.items c.push_rest.new.text.items judged.threads c.as_slice.ensures.value c.as_slice-2.ensures.value
    (c.in_ok-verdicts.ensures.judged c.args.sought naming last is) (c.in_ok-missed.ensures.missed naming last numbered judged)
    c.in_ok-push_judged.ensures (says naming done.locations done.variables)) c.push_rest.ensures
