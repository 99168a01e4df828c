-- Words, a place and a line feed are added; or one of them is refused.
use Rattle.std.proofs.Common.{◌≡◌, ◌++◌, ℕ, List}
use Rattle.std.proofs.lemmas.Result.{IfOk-from_err}
use Rattle.std.specs.Prelude.{Result, OnErr, OnOk, codes, if◌then◌else◌, is_ok}
use Rattle.lrc_text.specs.Front.{BeginsWith}
use Rattle.lrc_text.proofs.Fronts.{begins_both, begins_word, ends_err, ends_ok, grown_by, told_err}
use Rattle.lrc_acts.specs.declared.judge_lines.Place.{Place}
use Rattle.lrc_acts.specs.JudgeLines.{place_text, unsynchronized_line}
use Rattle.lrc_acts.proofs.judge_lines.push_unsynchronized.Goals as goal

pub returns-in_err-push_place : goal.returns-in_err-push_place
returns-in_err-push_place c = record {
  ok = IfOk-from_err _ _ c.from_residual-in_err-push_place.ensures.0;
  err = told_err _ (begins_both c.in_err-push_place.ensures.err (begins_word _ c.in_ok-extend_from_slice.ensures.items));
}

unsynchronized : {T E : Type 0} (r : Result T E) (place : Place) (old t1 t2 next : List ℕ) → t1 ≡ old ++ codes "not well synchronized"
    → t2 ≡ t1 ++ place_text place → next ≡ (if is_ok r then t2 ++ codes "\n" else t2)
    → OnOk r (next ≡ old ++ unsynchronized_line place) × OnErr r (BeginsWith next old)
unsynchronized r place old t1 t2 next is1 is2 is =
    let whole = grown_by old (codes "not well synchronized") (place_text place) is1 is2 in
    (ends_ok r old _ (codes "\n") whole is, ends_err r old _ (codes "\n") whole is)

pub returns : goal.returns
returns c =
    let is = unsynchronized c.extend_from_slice-2.result c.args.place c.args.text.now.items _ _ _ c.in_ok-extend_from_slice.ensures.items
    c.in_ok-push_place.ensures.ok c.extend_from_slice-2.ensures.items in
    record { ok = is.0; err = is.1 }
