use Rattle.std.proofs.Common.{[], get_or, refl}
use Rattle.std.specs.Prelude.{None}
use Rattle.lrc_chart_rows.specs.declared.row.Row.{Row}
use Rattle.lrc_chart_build.specs.Course.{kept}
use Rattle.lrc_chart_build.proofs.Steps.{each_step}
use Rattle.lrc_chart_build.proofs.part.kept_of.Goals as goal

abbrev no_row : Row
no_row = record { turn = 0; act = None }

pub loop-number-preserved : goal.loop-number-preserved
loop-number-preserved c =
    let rows = c.args.rows.now in
    let number = c.loop-number.number in
    each_step (kept c.args.turns.now c.args.hides) rows number no_row (get_or rows number no_row) [] c.loop-number.places.items
    c.push_kept.new.places.items c.loop-number-test.true refl c.loop-number.invariant c.in_ok-push_kept.ensures
