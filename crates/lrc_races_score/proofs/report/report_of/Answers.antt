-- One line more.
use Rattle.std.proofs.Common.{◌+◌, ◌==◌, ℕ, List, [], ◌∷◌, ◌++◌}
use Rattle.std.proofs.Common.{refl, sym, subst, arith, rules, tests}
use Rattle.std.proofs.lemmas.List.{length-take-le, length_push, take_all}
use Rattle.std.proofs.lemmas.Iterator.Consumers.{YieldsList-turn, YieldsList-end}
use Rattle.std.proofs.lemmas.Iterator.Splits.{YieldsList-from_slice_split}
use Rattle.lrc_text.specs.Lines.{lines_of}
use Rattle.lrc_text.proofs.Lines.{lines_more}
use Rattle.lrc_races_score.specs.declared.report.LinedClaim.{LinedClaim}
use Rattle.lrc_races_score.specs.Report.{SayClaims, no_lines}
use Rattle.lrc_races_score.proofs.Telling.{say_more, say_nothing, first_bad}
use Rattle.lrc_races_score.proofs.report.report_of.Goals as goal

pub loop-line-init : goal.loop-line-init
loop-line-init c = record {
  counted = refl;
  said = subst (λ (l : List LinedClaim). SayClaims 1 [] l) (sym c.new.ensures.items) no_lines;
}

pub loop-line-preserved-then-says_nothing : goal.loop-line-preserved-then-says_nothing
loop-line-preserved-then-says_nothing c =
    let turn = YieldsList-turn (YieldsList-from_slice_split _ (λ byte. byte == 10) c.args.text.now (cc) (cc) (cc) (λ x b q k. search (rules, tests)))
    c.loop-line.yielded _ c.loop-line.yielded_by _ _ c.in-Some.line c.in-Some.is c.next.ensures.steps in
    record {
      counted = omega (arith, length_push c.loop-line.yielded c.in-Some.line);
      said = subst (λ (l : List (List ℕ)). SayClaims 1 l c.loop-line.report.claims.items)
          (sym (lines_more (lines_of c.args.text.now) c.loop-line.number _ c.in-Some.line.now c.loop-line.invariant.counted turn))
          (say_nothing c.in-Some.line.now c.if-says_nothing.ensures c.loop-line.invariant.said);
    }

pub loop-line-preserved : goal.loop-line-preserved
loop-line-preserved c =
    let turn = YieldsList-turn (YieldsList-from_slice_split _ (λ byte. byte == 10) c.args.text.now (cc) (cc) (cc) (λ x b q k. search (rules, tests)))
    c.loop-line.yielded _ c.loop-line.yielded_by _ _ c.in-Some.line c.in-Some.is c.next.ensures.steps in
    let lines = lines_of c.args.text.now in
    let said = say_more c.in-Some.line.now (record { line = c.loop-line.number + 1; claim = c.in-Some-claim_on.claim }) c.loop-line.invariant.said
    c.in-Some-claim_on.ensures (omega (arith, length-take-le c.loop-line.number lines (omega (arith, turn.0, c.loop-line.invariant.counted)))) in
    record {
      counted = omega (arith, length_push c.loop-line.yielded c.in-Some.line);
      said = rw c.in_ok-push_claim-in-Some-claim_on.ensures (subst (λ (l : List (List ℕ)). SayClaims 1 l
          (c.loop-line.report.claims.items ++ (record { line = c.loop-line.number + 1; claim = c.in-Some-claim_on.claim }) ∷ []))
          (sym (lines_more lines c.loop-line.number _ c.in-Some.line.now c.loop-line.invariant.counted turn)) said);
    }

pub returns-in-None-claim_on-clause-err : goal.returns-in-None-claim_on-clause-err
returns-in-None-claim_on-clause-err c =
    let turn = YieldsList-turn (YieldsList-from_slice_split _ (λ byte. byte == 10) c.args.text.now (cc) (cc) (cc) (λ x b q k. search (rules, tests)))
    c.loop-line.yielded _ c.loop-line.yielded_by _ _ c.in-Some.line c.in-Some.is c.next.ensures.steps in (
      c.if-text-gt-MOST_BYTES.false,
      first_bad (lines_of c.args.text.now) c.loop-line.number _ c.in-Some.line.now c.loop-line.report.claims.items
          c.loop-line.invariant.counted turn c.loop-line.invariant.said
          (record { some = c.if-says_nothing.ensures; none = c.in-None-claim_on.ensures }),
    )

pub returns-clause-ok : goal.returns-clause-ok
returns-clause-ok c =
    let end = YieldsList-end (YieldsList-from_slice_split _ (λ byte. byte == 10) c.args.text.now (cc) (cc) (cc) (λ x b q k. search (rules, tests)))
    c.loop-line.yielded _ c.loop-line.yielded_by _ _ c.in-None.is c.next.ensures.steps in (
      c.if-text-gt-MOST_BYTES.false,
      subst (λ (l : List (List ℕ)). SayClaims 1 l c.loop-line.report.claims.items)
          (take_all c.loop-line.number (lines_of c.args.text.now) (omega (arith, end.1, c.loop-line.invariant.counted))) c.loop-line.invariant.said,
    )
