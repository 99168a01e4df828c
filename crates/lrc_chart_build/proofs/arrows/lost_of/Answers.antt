use Rattle.std.proofs.Common.{◌∙◌, ◌++◌, [], ℕ, List, ap, get_or, map, refl}
use Rattle.std.specs.Prelude.{slice_get}
use Rattle.std.specs.List.{flat_map}
use Rattle.lrc_envelope.specs.Envelope.{EnvelopeRecord}
use Rattle.lrc_chart_rows.specs.Takers.{takers}
use Rattle.lrc_chart_build.specs.declared.part.Place.{Place}
use Rattle.lrc_chart_build.specs.Arrows.{lost_if, sent_in_turn}
use Rattle.lrc_chart_build.specs.Seen.{SeenLost, seen_lost}
use Rattle.lrc_chart_build.proofs.Steps.{each_step, no_place}
use Rattle.lrc_chart_build.proofs.arrows.lost_of.Goals as goal

pub loop-from-preserved : goal.loop-from-preserved
loop-from-preserved c =
    let turns = c.args.turns.now in
    let places = c.args.places.now in
    let from = c.loop-from.from in
    let sent : ℕ → List EnvelopeRecord → List SeenLost =
    λ from out. flat_map (λ envelope. lost_if from envelope (takers turns envelope)) out in
    let of : ℕ → Place → List SeenLost = λ from row. sent from (sent_in_turn (slice_get turns row.turn)) in
    let old = map seen_lost c.loop-from.all.items in
    each_step of places from no_place (get_or places from no_place) [] old (map seen_lost c.push_all_lost.new.all.items)
    c.loop-from-test.true refl c.loop-from.invariant
    (c.in_ok-push_all_lost.ensures ∙ ap (λ (out : List EnvelopeRecord). old ++ sent from out) c.sent_in_turn-out.ensures)
