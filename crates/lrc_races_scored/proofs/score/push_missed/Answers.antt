-- Sort by sort.
use Rattle.std.proofs.Common.{refl, sym}
use Rattle.std.specs.Prelude.{List, ℕ}
use Rattle.std.proofs.lemmas.Result.{on_ok_weaker}
use Rattle.std.proofs.Common.{ap}
use Rattle.lrc_races_text.specs.Tables.{naming_of}
use Rattle.lrc_races_claims.specs.Known.{known_names}
use Rattle.lrc_races_scored.specs.Spelled.{event_line, first_line, locations_line, pair_line, variable_line}
use Rattle.lrc_races_scored.proofs.ScoreLemmas.{five_together, lines_seen, same_locations}
use Rattle.lrc_races_scored.proofs.score.push_missed.Goals as goal

pub returns : goal.returns
returns c =
    let missed = c.args.missed.now in
    let names = naming_of c.args.names.now in
    let variables = known_names c.args.variables.now in
    on_ok_weaker c.push_firsts.result (λ last naming e f.
    five_together c.args.text.now.items c.push_events.new.text.items c.push_pairs.new.text.items c.push_locations.new.text.items
    c.push_variables.new.text.items c.push_firsts.new.text.items _ _ _ _ _
    (lines_seen event_line event_line (λ x. refl) _ missed.events.items _ _ c.as_slice.ensures.value c.in_ok-push_events.ensures)
    (lines_seen pair_line pair_line (λ x. refl) _ missed.pairs.items _ _ c.as_slice-2.ensures.value c.in_ok-push_pairs.ensures)
    (lines_seen (locations_line names) (locations_line naming) (same_locations names naming (sym e)) _ missed.locations.items _ _
    c.as_slice-3.ensures.value c.in_ok-push_locations.ensures)
    (lines_seen (variable_line variables) (variable_line naming.variables) (λ x. ap (λ (v : List (List ℕ)). variable_line v x) (sym f)) _
    missed.variables.items _ _ c.as_slice-4.ensures.value c.in_ok-push_variables.ensures)
    (lines_seen (first_line variables) (first_line naming.variables) (λ x. ap (λ (v : List (List ℕ)). first_line v x) (sym f)) _ missed.firsts.items _ _
    c.as_slice-5.ensures.value last)) c.push_firsts.ensures
