-- Three words with numbers are added; or one of them is refused.
use Rattle.std.proofs.Common.{◌≡◌, ◌++◌, ℕ, List, refl}
use Rattle.std.proofs.lemmas.Result.{IfOk-from_err, on_ok_weaker}
use Rattle.std.specs.Prelude.{Result, OnOk, codes, decimal}
use Rattle.lrc_text.proofs.Fronts.{begins_both, begins_first, grown, grown_first, last_err, told_err}
use Rattle.lrc_acts.specs.declared.judge_lines.RacingAccesses.{RacingAccesses}
use Rattle.lrc_acts.proofs.judge_lines.push_positions.Goals as goal

pub returns-in_err-push_number : goal.returns-in_err-push_number
returns-in_err-push_number c = record {
  ok = IfOk-from_err _ _ c.from_residual.ensures.0;
  err = told_err _ c.in_err-push_number.ensures.err;
}

pub returns-in_err-push_number-2 : goal.returns-in_err-push_number-2
returns-in_err-push_number-2 c = record {
  ok = IfOk-from_err _ _ c.from_residual-in_err-push_number-2.ensures.0;
  err = told_err _ (begins_both c.in_err-push_number-2.ensures.err (begins_first _ _ c.in_ok-push_number.ensures.ok));
}

positions : {T E : Type 0} (r : Result T E) (pair : RacingAccesses) (old t1 t2 next : List ℕ) (word : ℕ)
    → t1 ≡ old ++ codes "race acts " ++ decimal pair.earlier → t2 ≡ t1 ++ codes " " ++ decimal pair.later
    → OnOk r (next ≡ t2 ++ codes ": word " ++ decimal word) → word ≡ pair.word
    → OnOk r (next ≡ old ++ (codes "race acts " ++ decimal pair.earlier ++ codes " " ++ decimal pair.later ++ codes ": word " ++ decimal pair.word))
positions r pair old t1 t2 next word is1 is2 is same =
    let first = grown_first old (codes "race acts ") pair.earlier pair.earlier is1 refl in
    let second = grown old _ (codes " ") pair.later pair.later first is2 refl in
    on_ok_weaker r (λ last. grown old _ (codes ": word ") word pair.word second last same) is

pub returns : goal.returns
returns c = record {
  ok = positions c.push_number-3.result c.args.pair c.args.text.now.items _ _ _ _ c.in_ok-push_number.ensures.ok c.in_ok-push_number-2.ensures.ok
      c.push_number-3.ensures.ok c.from.ensures;
  err = last_err c.push_number-3.result _ (begins_both (begins_first _ _ c.in_ok-push_number-2.ensures.ok) (begins_first _ _ c.in_ok-push_number.ensures.ok))
      c.push_number-3.ensures.err;
}
