-- Positions, a comma, kinds and a line feed are added; or one of them is refused.
use Rattle.std.proofs.Common.{◌≡◌, ◌∙◌, ◌++◌, ℕ, List, refl, sym}
use Rattle.std.proofs.lemmas.Result.{IfOk-from_err}
use Rattle.std.specs.Prelude.{Result, OnErr, OnOk, codes, decimal, if◌then◌else◌, is_ok}
use Rattle.lrc_text.specs.Front.{BeginsWith}
use Rattle.lrc_text.proofs.Fronts.{begins_both, begins_kept, begins_word, ends_err, ends_ok, grown_by, three, told_err}
use Rattle.lrc_acts.specs.declared.judge_lines.RacingAccesses.{RacingAccesses}
use Rattle.lrc_acts.specs.JudgeLines.{kind_text, pair_line}
use Rattle.lrc_acts.proofs.judge_lines.push_pair.Goals as goal

pub returns-in_err-push_positions : goal.returns-in_err-push_positions
returns-in_err-push_positions c = record {
  ok = IfOk-from_err _ _ c.from_residual.ensures.0;
  err = told_err _ c.in_err-push_positions.ensures.err;
}

pub returns-in_err-extend_from_slice : goal.returns-in_err-extend_from_slice
returns-in_err-extend_from_slice c = record {
  ok = IfOk-from_err _ _ c.from_residual-in_err-extend_from_slice.ensures.0;
  err = told_err _ (begins_kept c.in_err-extend_from_slice.ensures.items (begins_word _ c.in_ok-push_positions.ensures.ok));
}

pub returns-in_err-push_kinds : goal.returns-in_err-push_kinds
returns-in_err-push_kinds c = record {
  ok = IfOk-from_err _ _ c.from_residual-in_err-push_kinds.ensures.0;
  err = told_err _ (begins_both c.in_err-push_kinds.ensures.err (begins_both (begins_word _ c.in_ok-extend_from_slice.ensures.items)
      (begins_word _ c.in_ok-push_positions.ensures.ok)));
}

paired : {T E : Type 0} (r : Result T E) (pair : RacingAccesses) (old t1 t2 t3 next : List ℕ)
    → t1 ≡ old ++ (codes "race acts " ++ decimal pair.earlier ++ codes " " ++ decimal pair.later ++ codes ": word " ++ decimal pair.word)
    → t2 ≡ t1 ++ codes ", " → t3 ≡ t2 ++ (kind_text pair.earlier_writes ++ codes " " ++ kind_text pair.later_writes)
    → next ≡ (if is_ok r then t3 ++ codes "\n" else t3) → OnOk r (next ≡ old ++ pair_line pair) × OnErr r (BeginsWith next old)
paired r pair old t1 t2 t3 next is1 is2 is3 is =
    let kinds = is3 ∙ sym (three t2 (kind_text pair.earlier_writes) (codes " ") (kind_text pair.later_writes)) in
    let whole = grown_by old _ (kind_text pair.later_writes)
    (grown_by old _ (codes " ") (grown_by old _ (kind_text pair.earlier_writes) (grown_by old _ (codes ", ") is1 is2) refl) refl) kinds in
    (ends_ok r old _ (codes "\n") whole is, ends_err r old _ (codes "\n") whole is)

pub returns : goal.returns
returns c =
    let is = paired c.extend_from_slice-2.result c.args.pair c.args.text.now.items _ _ _ _ c.in_ok-push_positions.ensures.ok
    c.in_ok-extend_from_slice.ensures.items c.in_ok-push_kinds.ensures.ok c.extend_from_slice-2.ensures.items in
    record { ok = is.0; err = is.1 }
