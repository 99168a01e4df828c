use Rattle.std.proofs.Common.{◌∙◌, ◌++◌, ℕ, List, ap, map}
use Rattle.lrc_envelope.specs.Envelope.{EnvelopeRecord}
use Rattle.lrc_chart_rows.specs.Takers.{takers}
use Rattle.lrc_chart_build.specs.Arrows.{shown_message_arrows}
use Rattle.lrc_chart_build.specs.Seen.{SeenArrow, seen_arrow}
use Rattle.lrc_chart_build.proofs.Steps.{flat_step}
use Rattle.lrc_chart_build.proofs.arrows.push_all_arrows.Goals as goal

pub loop-envelope-preserved : goal.loop-envelope-preserved
loop-envelope-preserved c =
    let turns = c.args.turns.now in
    let places = c.args.places.now in
    let from = c.args.from in
    let of : EnvelopeRecord → List SeenArrow = λ envelope. shown_message_arrows places from envelope (takers turns envelope) in
    let envelope = c.envelope-item.result in
    let old = map seen_arrow c.loop-envelope.arrows.items in
    flat_step of c.args.out.now c.loop-envelope.envelope-index envelope envelope (map seen_arrow c.args.arrows.now.items) old
    (map seen_arrow c.push_arrows.new.arrows.items) c.loop-envelope-test.true c.envelope-item.is c.loop-envelope.invariant
    (c.in_ok-push_arrows.ensures
    ∙ ap (λ (t : List ℕ). old ++ shown_message_arrows places from envelope t) (c.as_slice.ensures.value ∙ c.in_ok-takers.ensures))
