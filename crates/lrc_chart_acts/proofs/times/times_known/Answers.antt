use Rattle.std.proofs.Common.{◌≡◌, ◌∙◌, ◌++◌, ◌∷◌, ◌<◌, [], ℕ, List, Bool, ap, arith, cond, false, get_or, length, refl}
use Rattle.std.specs.Prelude.{is_some}
use Rattle.std.proofs.lemmas.List.{get_or_default}
use Rattle.lrc_time.specs.Time.{zeros}
use Rattle.lrc_timeline.specs.Timeline.{times_in}
use Rattle.lrc_chart_build.proofs.Steps.{each_step}
use Rattle.lrc_chart_build.specs.Course.{shown_act}
use Rattle.lrc_chart_acts.specs.Times.{time_if, time_known}
use Rattle.lrc_chart_acts.proofs.Tables.{no_act}
use Rattle.lrc_chart_acts.proofs.times.times_known.Goals as goal

pub loop-position-preserved : goal.loop-position-preserved
loop-position-preserved c =
    let acts = c.args.acts.now in
    let order = c.args.order.now in
    let nodes = c.args.nodes in
    let places = c.args.places.now in
    let position = c.loop-position.position in
    let before = times_in c.loop-position.times in
    let shown : get_or c.in_ok-marks.marks.items position false ≡ is_some (shown_act places position) =
    c.in_ok-marks.ensures.marks position (omega (arith, c.loop-position-test.true)) in
    let inside : position < length c.in_ok-marks.marks.items = omega (arith, c.loop-position-test.true, c.in_ok-marks.ensures.length) in
    let is : c.index.result.now ≡ is_some (shown_act places position) =
    c.index.ensures ∙ get_or_default c.in_ok-marks.marks.items position c.index.result.now false inside ∙ shown in
    each_step (time_if order acts nodes places) acts position no_act (get_or acts position no_act) []
    before (times_in c.push.new.self) c.loop-position-test.true refl c.loop-position.invariant
    (c.in_ok-push.ensures.times ∙ ap (λ (time : List ℕ). before ++ time ∷ [])
    (c.time_if-time.ensures ∙ ap (λ (b : Bool). cond b (time_known order acts nodes position) (zeros nodes)) is))
