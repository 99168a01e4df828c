-- A read, a comma, values and a line feed are added; or one of them is refused.
use Rattle.std.proofs.Common.{◌≡◌, ◌∙◌, ◌++◌, ℕ, List}
use Rattle.std.proofs.lemmas.Result.{IfOk-from_err}
use Rattle.std.specs.Prelude.{Result, OnErr, OnOk, codes, decimal, if◌then◌else◌, is_ok}
use Rattle.lrc_text.specs.Front.{BeginsWith}
use Rattle.lrc_text.proofs.Fronts.{begins_both, begins_kept, begins_word, ends_err, ends_ok, four, grown_by, told_err}
use Rattle.lrc_acts.specs.declared.judge_lines.Place.{Place}
use Rattle.lrc_acts.specs.JudgeLines.{place_text, unlazy_line, values_text}
use Rattle.lrc_acts.proofs.judge_lines.push_unlazy.Goals as goal

after_read : {old next : List ℕ} (a b c d : List ℕ) → next ≡ old ++ a ++ b ++ c ++ d → BeginsWith next old
after_read {old} a b c d is = begins_word (a ++ b ++ c ++ d) (is ∙ four old a b c d)

pub returns-in_err-push_read : goal.returns-in_err-push_read
returns-in_err-push_read c = record {
  ok = IfOk-from_err _ _ c.from_residual.ensures.0;
  err = told_err _ c.in_err-push_read.ensures.err;
}

pub returns-in_err-extend_from_slice : goal.returns-in_err-extend_from_slice
returns-in_err-extend_from_slice c = record {
  ok = IfOk-from_err _ _ c.from_residual-in_err-extend_from_slice.ensures.0;
  err = told_err _ (begins_kept c.in_err-extend_from_slice.ensures.items (after_read _ _ _ _ c.in_ok-push_read.ensures.ok));
}

pub returns-in_err-push_values : goal.returns-in_err-push_values
returns-in_err-push_values c = record {
  ok = IfOk-from_err _ _ c.from_residual-in_err-push_values.ensures.0;
  err = told_err _ (begins_both c.in_err-push_values.ensures.err (begins_both (begins_word _ c.in_ok-extend_from_slice.ensures.items)
      (after_read _ _ _ _ c.in_ok-push_read.ensures.ok)));
}

unlazy : {T E : Type 0} (r : Result T E) (place : Place) (value : ℕ) (allowed old t1 t2 t3 next : List ℕ)
    → t1 ≡ old ++ codes "does not read lazily" ++ place_text place ++ codes ": read " ++ decimal value → t2 ≡ t1 ++ codes ", allowed "
    → t3 ≡ t2 ++ values_text allowed → next ≡ (if is_ok r then t3 ++ codes "\n" else t3)
    → OnOk r (next ≡ old ++ unlazy_line place value allowed) × OnErr r (BeginsWith next old)
unlazy r place value allowed old t1 t2 t3 next is1 is2 is3 is =
    let read = is1 ∙ four old (codes "does not read lazily") (place_text place) (codes ": read ") (decimal value) in
    let whole = grown_by old _ (values_text allowed) (grown_by old _ (codes ", allowed ") read is2) is3 in
    (ends_ok r old _ (codes "\n") whole is, ends_err r old _ (codes "\n") whole is)

pub returns : goal.returns
returns c =
    let is = unlazy c.extend_from_slice-2.result c.args.place c.args.value c.args.allowed.now c.args.text.now.items _ _ _ _ c.in_ok-push_read.ensures.ok
    c.in_ok-extend_from_slice.ensures.items c.in_ok-push_values.ensures.ok c.extend_from_slice-2.ensures.items in
    record { ok = is.0; err = is.1 }
