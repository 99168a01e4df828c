use Rattle.std.proofs.Common.{◌∷◌, [], ℕ, List, ap, get_or, map, refl, subst, sym}
use Rattle.lrc_acts_text.specs.Acts.{act_at}
use Rattle.lrc_chart_build.specs.Counts.{AreCounts}
use Rattle.lrc_chart_build.specs.Seen.{SeenRow, seen_row}
use Rattle.lrc_chart_build.specs.declared.part.Place.{Place}
use Rattle.lrc_chart_build.proofs.Steps.{each_step, no_place}
use Rattle.lrc_chart_acts.specs.Rows.{act_row}
use Rattle.lrc_chart_acts.proofs.rows.act_rows.Goals as goal

pub loop-at-init : goal.loop-at-init
loop-at-init c =
    let acts = c.args.known.now.acts in
    record {
      rows = ap (map seen_row) c.new-rows.ensures.items;
      counts = subst (λ p. AreCounts acts p c.new-counts.result) (sym c.new-counts.ensures.position) (c.new-counts.ensures.counts acts);
    }

pub loop-at-preserved : goal.loop-at-preserved
loop-at-preserved c =
    let known = c.args.known.now in
    let places = c.args.places.now in
    let at = c.loop-at.at in
    let of : ℕ → Place → List SeenRow = λ at place. act_row known places at place (act_at known.acts place.turn) ∷ [] in
    record {
      rows =
          each_step of places at no_place (get_or places at no_place) [] (map seen_row c.loop-at.rows.items)
          (map seen_row c.push_act_row.new.rows.items) c.loop-at-test.true refl c.loop-at.invariant.rows c.in_ok-push_act_row.ensures;
      counts = c.go_to_place.ensures.here;
    }
