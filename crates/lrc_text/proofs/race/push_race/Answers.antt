-- Five words with numbers are added, and a last word; or one of them is refused.
use Rattle.std.proofs.Common.{◌≡◌, ◌++◌, ℕ, List, refl}
use Rattle.std.proofs.lemmas.Result.{IfOk-from_err}
use Rattle.std.specs.Prelude.{Result, OnErr, OnOk, codes, decimal, if◌then◌else◌, is_ok}
use Rattle.lrc_trace.specs.declared.race.Race.{Race}
use Rattle.lrc_text.specs.Front.{BeginsWith}
use Rattle.lrc_text.specs.RaceText.{race_line}
use Rattle.lrc_text.proofs.Fronts.{begins_both, begins_first, ends_err, ends_ok, grown, grown_first, told_err}
use Rattle.lrc_text.proofs.race.push_race.Goals as goal

pub returns-in_err-push_number : goal.returns-in_err-push_number
returns-in_err-push_number c = record {
  ok = IfOk-from_err _ _ c.from_residual.ensures.0;
  err = told_err _ c.in_err-push_number.ensures.err;
}

pub returns-in_err-push_number-2 : goal.returns-in_err-push_number-2
returns-in_err-push_number-2 c = record {
  ok = IfOk-from_err _ _ c.from_residual-in_err-push_number-2.ensures.0;
  err = told_err _ (begins_both c.in_err-push_number-2.ensures.err (begins_first _ _ c.in_ok-push_number.ensures.ok));
}

pub returns-in_err-push_number-3 : goal.returns-in_err-push_number-3
returns-in_err-push_number-3 c = record {
  ok = IfOk-from_err _ _ c.from_residual-in_err-push_number-3.ensures.0;
  err = told_err _ (begins_both c.in_err-push_number-3.ensures.err
      (begins_both (begins_first _ _ c.in_ok-push_number-2.ensures.ok) (begins_first _ _ c.in_ok-push_number.ensures.ok)));
}

pub returns-in_err-push_number-4 : goal.returns-in_err-push_number-4
returns-in_err-push_number-4 c = record {
  ok = IfOk-from_err _ _ c.from_residual-in_err-push_number-4.ensures.0;
  err = told_err _ (begins_both c.in_err-push_number-4.ensures.err (begins_both (begins_first _ _ c.in_ok-push_number-3.ensures.ok)
      (begins_both (begins_first _ _ c.in_ok-push_number-2.ensures.ok) (begins_first _ _ c.in_ok-push_number.ensures.ok))));
}

pub returns-in_err-push_number-5 : goal.returns-in_err-push_number-5
returns-in_err-push_number-5 c = record {
  ok = IfOk-from_err _ _ c.from_residual-in_err-push_number-5.ensures.0;
  err = told_err _ (begins_both c.in_err-push_number-5.ensures.err (begins_both (begins_first _ _ c.in_ok-push_number-4.ensures.ok)
      (begins_both (begins_first _ _ c.in_ok-push_number-3.ensures.ok)
      (begins_both (begins_first _ _ c.in_ok-push_number-2.ensures.ok) (begins_first _ _ c.in_ok-push_number.ensures.ok)))));
}

-- the words before the last one
numbers : (race : Race) (old t1 t2 t3 t4 t5 : List ℕ) (word a b : ℕ) → t1 ≡ old ++ codes "race word " ++ decimal word → word ≡ race.word
    → t2 ≡ t1 ++ codes ": node " ++ decimal a → a ≡ race.node_a → t3 ≡ t2 ++ codes " interval " ++ decimal race.interval_a
    → t4 ≡ t3 ++ codes ", node " ++ decimal b → b ≡ race.node_b → t5 ≡ t4 ++ codes " interval " ++ decimal race.interval_b
    → t5 ≡ old ++ (codes "race word " ++ decimal race.word ++ codes ": node " ++ decimal race.node_a ++ codes " interval " ++ decimal race.interval_a
    ++ codes ", node " ++ decimal race.node_b ++ codes " interval " ++ decimal race.interval_b)
numbers race old t1 t2 t3 t4 t5 word a b is1 same1 is2 same2 is3 is4 same4 is5 =
    grown old _ _ _ _ (grown old _ _ _ _ (grown old _ _ _ _ (grown old _ _ _ _ (grown_first old _ _ _ is1 same1) is2 same2) is3 refl) is4 same4) is5 refl

the_line : {T E : Type 0} (r : Result T E) (race : Race) (old now next : List ℕ)
    → now ≡ old ++ (codes "race word " ++ decimal race.word ++ codes ": node " ++ decimal race.node_a ++ codes " interval " ++ decimal race.interval_a
    ++ codes ", node " ++ decimal race.node_b ++ codes " interval " ++ decimal race.interval_b)
    → next ≡ (if is_ok r then now ++ codes "\n" else now)
    → OnOk r (next ≡ old ++ race_line race) × OnErr r (BeginsWith next old)
the_line r race old now next was is = (ends_ok r old _ (codes "\n") was is, ends_err r old _ (codes "\n") was is)

pub returns : goal.returns
returns c =
    let is = the_line c.extend_from_slice.result c.args.race c.args.text.now.items _ _
    (numbers c.args.race c.args.text.now.items _ _ _ _ _ _ _ _ c.in_ok-push_number.ensures.ok c.from.ensures c.in_ok-push_number-2.ensures.ok c.from-2.ensures
    c.in_ok-push_number-3.ensures.ok c.in_ok-push_number-4.ensures.ok c.from-3.ensures c.in_ok-push_number-5.ensures.ok)
    c.extend_from_slice.ensures.items in
    record { ok = is.0; err = is.1 }
