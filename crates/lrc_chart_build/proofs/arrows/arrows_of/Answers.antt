use Rattle.std.proofs.Common.{◌∙◌, ◌++◌, [], ℕ, List, ap, get_or, map, refl}
use Rattle.std.specs.Prelude.{slice_get}
use Rattle.std.specs.List.{flat_map}
use Rattle.lrc_envelope.specs.Envelope.{EnvelopeRecord}
use Rattle.lrc_chart_rows.specs.Takers.{takers}
use Rattle.lrc_chart_build.specs.declared.part.Place.{Place}
use Rattle.lrc_chart_build.specs.Arrows.{sent_in_turn, shown_message_arrows}
use Rattle.lrc_chart_build.specs.Seen.{SeenArrow, seen_arrow}
use Rattle.lrc_chart_build.proofs.Steps.{each_step, no_place}
use Rattle.lrc_chart_build.proofs.arrows.arrows_of.Goals as goal

pub loop-from-preserved : goal.loop-from-preserved
loop-from-preserved c =
    let turns = c.args.turns.now in
    let places = c.args.places.now in
    let from = c.loop-from.from in
    let sent : ℕ → List EnvelopeRecord → List SeenArrow =
    λ from out. flat_map (λ envelope. shown_message_arrows places from envelope (takers turns envelope)) out in
    let of : ℕ → Place → List SeenArrow = λ from row. sent from (sent_in_turn (slice_get turns row.turn)) in
    let old = map seen_arrow c.loop-from.arrows.items in
    each_step of places from no_place (get_or places from no_place) [] old (map seen_arrow c.push_all_arrows.new.arrows.items)
    c.loop-from-test.true refl c.loop-from.invariant
    (c.in_ok-push_all_arrows.ensures ∙ ap (λ (out : List EnvelopeRecord). old ++ sent from out) c.sent_in_turn-out.ensures)
