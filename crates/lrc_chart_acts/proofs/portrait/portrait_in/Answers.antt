use Rattle.std.proofs.Common.{◌∙◌, [], List, ap, refl, subst, sym}
use Rattle.std.proofs.lemmas.Result.{IfOk-weaker}
use Rattle.lrc_judge.specs.FirstPairs.{AreFirstPairs}
use Rattle.lrc_judge.specs.declared.lanes.Pair.{Pair}
use Rattle.lrc_timeline.specs.Timeline.{times_in}
use Rattle.lrc_chart_build.specs.Course.{KnownRecord}
use Rattle.lrc_chart_build.specs.declared.part.Place.{Place}
use Rattle.lrc_chart_acts.specs.Picture.{IsPictureOfActs}
use Rattle.lrc_chart_acts.specs.Times.{times_known}
use Rattle.lrc_chart_acts.proofs.portrait.portrait_in.Goals as goal

pub returns : goal.returns
returns c =
    let acts = c.args.acts.now in
    let nodes = c.args.nodes in
    let order = c.in_ok-order.order in
    let known : KnownRecord = record {
      acts = acts;
      lines = c.args.lines.now;
      times = times_in c.in_ok-times.times;
      pairs = c.as_slice.result.now;
      labels = [];
    } in
    IfOk-weaker c.picture_of.result _ _
    (λ picture is part shown. record {
      order = order;
      order_is = c.in_ok-order.ensures;
      known = known;
      known_is = record {
        acts_are = refl;
        lines_are = refl;
        times = c.in_ok-times.ensures ∙ ap (times_known order acts nodes) shown;
        pairs = subst (λ (pairs : List Pair). AreFirstPairs acts pairs) (sym c.as_slice.ensures.value) c.in_ok-pairs.ensures;
        labels = refl;
      };
      picture_is = subst (λ (l : List Place). IsPictureOfActs c.args.title.now nodes order known l picture) shown is;
    }) c.picture_of.ensures
