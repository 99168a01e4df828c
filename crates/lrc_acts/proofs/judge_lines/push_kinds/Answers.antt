-- A kind, a blank and a kind are added; or one of them is refused.
use Rattle.std.proofs.Common.{◌≡◌, ◌∙◌, ◌++◌, ℕ, Bool, List, ap}
use Rattle.std.specs.Prelude.{Result, OnErr, OnOk, codes, if◌then◌else◌, is_ok}
use Rattle.lrc_text.specs.Front.{BeginsWith}
use Rattle.lrc_text.proofs.Fronts.{ends_err, ends_ok, grown_by}
use Rattle.lrc_acts.specs.JudgeLines.{kind_text}
use Rattle.lrc_acts.proofs.judge_lines.push_kinds.Goals as goal

kinds : {T E : Type 0} (r : Result T E) (earlier later : Bool) (old t1 t2 next first last : List ℕ) → first ≡ kind_text earlier → last ≡ kind_text later
    → t1 ≡ old ++ first → t2 ≡ t1 ++ codes " " → next ≡ (if is_ok r then t2 ++ last else t2)
    → OnOk r (next ≡ old ++ (kind_text earlier ++ codes " " ++ kind_text later)) × OnErr r (BeginsWith next old)
kinds r earlier later old t1 t2 next first last is_first is_last is1 is2 is =
    let whole = grown_by old (kind_text earlier) (codes " ") (is1 ∙ ap (λ l. old ++ l) is_first) is2 in
    let end = is ∙ ap (λ l. if is_ok r then t2 ++ l else t2) is_last in
    (ends_ok r old _ (kind_text later) whole end, ends_err r old _ (kind_text later) whole end)

pub returns : goal.returns
returns c =
    let is = kinds c.extend_from_slice-3.result c.args.earlier_writes c.args.later_writes c.args.text.now.items _ _ _ _ _ c.kind_of.ensures c.kind_of-2.ensures
    c.in_ok-extend_from_slice.ensures.items c.in_ok-extend_from_slice-2.ensures.items c.extend_from_slice-3.ensures.items in
    record { ok = is.0; err = is.1 }
