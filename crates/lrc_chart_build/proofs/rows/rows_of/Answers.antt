use Rattle.std.proofs.Common.{[], ℕ, List, ap, get_or, map, refl, subst, sym}
use Rattle.std.specs.Prelude.{slice_get}
use Rattle.lrc_chart_build.specs.Counts.{AreCounts}
use Rattle.lrc_chart_build.specs.Rows.{shown_if}
use Rattle.lrc_chart_build.specs.Seen.{SeenRow, seen_row}
use Rattle.lrc_chart_build.specs.declared.part.Place.{Place}
use Rattle.lrc_chart_build.proofs.Steps.{each_step, no_place}
use Rattle.lrc_chart_build.proofs.rows.rows_of.Goals as goal

pub loop-at-init : goal.loop-at-init
loop-at-init c =
    let acts = c.args.course.now.known.acts in
    record {
      rows = ap (map seen_row) c.new-rows.ensures.items;
      counts = subst (λ p. AreCounts acts p c.new-counts.result) (sym c.new-counts.ensures.position) (c.new-counts.ensures.counts acts);
    }

pub loop-at-preserved : goal.loop-at-preserved
loop-at-preserved c =
    let course = c.args.course.now in
    let circled = c.args.circled.now in
    let places = c.args.places.now in
    let at = c.loop-at.at in
    let of : ℕ → Place → List SeenRow = λ at place. shown_if course circled places at place (slice_get course.turns place.turn) in
    record {
      rows =
          each_step of places at no_place (get_or places at no_place) [] (map seen_row c.loop-at.rows.items) (map seen_row c.push_row.new.rows.items)
          c.loop-at-test.true refl c.loop-at.invariant.rows c.in_ok-push_row.ensures;
      counts = c.go_to_place.ensures.here;
    }
