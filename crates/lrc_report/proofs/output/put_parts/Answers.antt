use Rattle.std.proofs.Common.{◌≡◌, ◌∙◌, ◌+◌, ◌++◌, ℕ, List, drop, sym, ap, subst}
use Rattle.lrc_text.specs.Parts.{whole_text}
use Rattle.lrc_report.proofs.WriteLemmas.{IsUnderWay, on_err, parts_at, way_part, way_stops}
use Rattle.lrc_report.proofs.output.put_parts.Goals as goal

pub returns-in_err-put-clause-err : goal.returns-in_err-put-clause-err
returns-in_err-put-clause-err g c =
    let parts = c.args.parts.now in
    let i = c.loop-part.part-index in
    let here : whole_text (drop i parts) ≡ c.deref.result.now ++ whole_text (drop (i + 1) parts) =
    parts_at parts i c.part-item.result c.loop-part-test.true
    ∙ ap (λ (text : List ℕ). text ++ whole_text (drop (i + 1) parts)) (ap (λ p. p.items) (sym c.part-item.is) ∙ sym c.deref.ensures.value) in
    on_err c.from_residual.result _
    (way_stops _ _ _ (whole_text parts) c.deref.result.now (whole_text (drop (i + 1) parts))
    (subst (IsUnderWay (g.W.Write.contents c.args.output.now.writer.now) (g.W.Write.contents c.loop-part.output.writer.now) (whole_text parts)) here
    c.loop-part.invariant.0)
    c.in_err-put.ensures.err)

pub loop-part-preserved : goal.loop-part-preserved
loop-part-preserved g c =
    let parts = c.args.parts.now in
    let i = c.loop-part.part-index in
    let here : whole_text (drop i parts) ≡ c.deref.result.now ++ whole_text (drop (i + 1) parts) =
    parts_at parts i c.part-item.result c.loop-part-test.true
    ∙ ap (λ (text : List ℕ). text ++ whole_text (drop (i + 1) parts)) (ap (λ p. p.items) (sym c.part-item.is) ∙ sym c.deref.ensures.value) in (
      way_part _ _ _ (whole_text parts) c.deref.result.now (whole_text (drop (i + 1) parts))
          (subst (IsUnderWay (g.W.Write.contents c.args.output.now.writer.now) (g.W.Write.contents c.loop-part.output.writer.now) (whole_text parts)) here
          c.loop-part.invariant.0)
          c.in_ok-put.ensures.ok,
      c.in_ok-put.ensures.fine,
      c.in_ok-put.ensures.same_writer ∙ c.loop-part.invariant.2,
    )
