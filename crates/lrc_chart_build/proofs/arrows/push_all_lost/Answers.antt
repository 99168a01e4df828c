use Rattle.std.proofs.Common.{◌∙◌, ◌++◌, ℕ, List, ap, map}
use Rattle.lrc_envelope.specs.Envelope.{EnvelopeRecord}
use Rattle.lrc_chart_rows.specs.Takers.{takers}
use Rattle.lrc_chart_build.specs.Arrows.{lost_if}
use Rattle.lrc_chart_build.specs.Seen.{SeenLost, seen_lost}
use Rattle.lrc_chart_build.proofs.Steps.{flat_step}
use Rattle.lrc_chart_build.proofs.arrows.push_all_lost.Goals as goal

pub loop-envelope-preserved : goal.loop-envelope-preserved
loop-envelope-preserved c =
    let turns = c.args.turns.now in
    let from = c.args.from in
    let of : EnvelopeRecord → List SeenLost = λ envelope. lost_if from envelope (takers turns envelope) in
    let envelope = c.envelope-item.result in
    let old = map seen_lost c.loop-envelope.all.items in
    flat_step of c.args.out.now c.loop-envelope.envelope-index envelope envelope (map seen_lost c.args.all.now.items) old
    (map seen_lost c.push_lost.new.all.items) c.loop-envelope-test.true c.envelope-item.is c.loop-envelope.invariant
    (c.in_ok-push_lost.ensures
    ∙ ap (λ (t : List ℕ). old ++ lost_if from envelope t) (c.as_slice.ensures.value ∙ c.in_ok-takers.ensures))
