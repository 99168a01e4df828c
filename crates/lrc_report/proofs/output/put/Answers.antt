use Rattle.std.proofs.Common.{◌∙◌, ℕ, List, sym, subst}
use Rattle.std.proofs.lemmas.List.{take_rest}
use Rattle.lrc_report.specs.Output.{AppendsFront}
use Rattle.lrc_text.proofs.Lines.{some_of}
use Rattle.lrc_report.proofs.WriteLemmas.{IsUnderWay, on_err, way_front, way_kept, way_more}
use Rattle.lrc_report.proofs.output.put.Goals as goal

pub returns-in_err-count-clause-err : goal.returns-in_err-count-clause-err
returns-in_err-count-clause-err g c =
    on_err c.from_residual.result _
    (way_front _ _ c.args.text.now c.loop-turn.rest.now (some_of c.loop-turn.rest.now c.if-is_empty.ensures)
    (way_kept _ _ _ c.args.text.now c.loop-turn.rest.now c.loop-turn.invariant.0 c.in_err-count.ensures.bytes))

pub loop-turn-preserved : goal.loop-turn-preserved
loop-turn-preserved g c = (
  subst (λ (rest : List ℕ). IsUnderWay (g.W.Write.contents c.args.output.now.writer.now) (g.W.Write.contents c.write.new.self.writer.now) c.args.text.now rest)
      (sym (take_rest c.loop-turn.rest.now c.in_ok-count.count))
      (way_more _ _ _ c.args.text.now c.loop-turn.rest.now c.in_ok-count.count c.loop-turn.invariant.0 c.in_ok-count.ensures.bytes),
  c.in_ok-count.ensures.fine,
  c.in_ok-count.ensures.same_writer ∙ c.loop-turn.invariant.2,
)

pub returns-else-is_empty-2-clause-err : goal.returns-else-is_empty-2-clause-err
returns-else-is_empty-2-clause-err g c =
    subst (λ w. AppendsFront (g.W.Write.contents c.args.output.now.writer.now) (g.W.Write.contents w) c.args.text.now) (sym c.fail.ensures.held)
    (way_front _ _ c.args.text.now c.loop-turn.rest.now (some_of c.loop-turn.rest.now c.if-is_empty-2.ensures) c.loop-turn.invariant.0)
