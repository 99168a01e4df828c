use Rattle.std.proofs.Common.{[], get_or, refl}
use Rattle.lrc_chart_build.proofs.Steps.{each_step}
use Rattle.lrc_chart_acts.specs.Shown.{row_if}
use Rattle.lrc_chart_acts.proofs.Tables.{no_act}
use Rattle.lrc_chart_acts.proofs.shown.acts_shown.Goals as goal

pub loop-position-preserved : goal.loop-position-preserved
loop-position-preserved c =
    let acts = c.args.acts.now in
    let position = c.loop-position.position in
    each_step (row_if c.args.part) acts position no_act (get_or acts position no_act) [] c.loop-position.places.items
    c.push_row_if.new.places.items c.loop-position-test.true refl c.loop-position.invariant c.in_ok-push_row_if.ensures
