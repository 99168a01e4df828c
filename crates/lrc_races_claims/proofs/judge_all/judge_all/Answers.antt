-- No slot is filled; then those of the turns are; then each claim has its verdict.
use Rattle.std.proofs.Common.{List, sym, subst}
use Rattle.std.specs.Prelude.{Option}
use Rattle.std.proofs.lemmas.Result.{IfOk-weaker}
use Rattle.lrc_races_claims.specs.Judge.{AreSlots}
use Rattle.lrc_races_claims.specs.declared.verdict.Verdict.{Verdict}
use Rattle.lrc_races_claims.proofs.Saying.{on_ok}
use Rattle.lrc_races_claims.proofs.JudgeLemmas.{slots_none}
use Rattle.lrc_races_claims.proofs.judge_all.judge_all.Goals as goal

pub verdicts_of-requires-clause-judge : goal.verdicts_of-requires-clause-judge
verdicts_of-requires-clause-judge c =
    let some = c.requires.judge in
    record {
      sought = some.sought;
      naming = some.naming;
      last = some.last;
      is = c.in_ok-judge_turns.ensures.stays some.sought some.naming some.last some.is;
    }

pub returns-clause-judged : goal.returns-clause-judged
returns-clause-judged c =
    IfOk-weaker c.verdicts_of.result _ _ (λ verdicts says sought naming last is.
    says sought naming last (c.in_ok-judge_turns.ensures.stays sought naming last is)
    (subst (λ (slots : List (Option Verdict)). AreSlots sought naming c.args.events.now last c.args.claims.now slots) (sym c.as_slice-2.ensures.value)
    (c.in_ok-judge_turns.ensures.slots sought naming last is
    (slots_none sought naming c.args.events.now last c.args.claims.now _ c.in_ok-slots.ensures.empty)))) c.verdicts_of.ensures.judged

pub returns-clause-stays : goal.returns-clause-stays
returns-clause-stays c =
    on_ok c.verdicts_of.result c.verdicts_of.ensures.stays (λ stays sought naming last is.
    stays sought naming last (c.in_ok-judge_turns.ensures.stays sought naming last is))
