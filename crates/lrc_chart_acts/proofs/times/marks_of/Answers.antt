use Rattle.std.proofs.Common.{◌∙◌, ◌+◌, Bool, ap, arith, get_or, sym, take}
use Rattle.std.specs.Prelude.{◌||◌}
use Rattle.std.proofs.lemmas.List.Folds.{list_any_more}
use Rattle.lrc_chart_build.specs.Course.{is_act_at}
use Rattle.lrc_chart_build.specs.declared.part.Place.{Place}
use Rattle.lrc_chart_build.proofs.Steps.{no_place}
use Rattle.lrc_chart_acts.proofs.Marking.{is_some-position}
use Rattle.lrc_chart_acts.proofs.times.marks_of.Goals as goal

pub loop-place-preserved : goal.loop-place-preserved
loop-place-preserved c =
    let places = c.args.places.now in
    let i = c.loop-place.place-index in
    record {
      many = c.mark.ensures.length ∙ c.loop-place.invariant.many;
      marks = λ k lt.
          let p : Place → Bool = λ place. is_act_at k place.act in
          c.mark.ensures.marks k (omega (arith, lt, c.loop-place.invariant.many))
          ∙ ap (λ b. b || is_act_at k (get_or places i no_place).act) (c.loop-place.invariant.marks k lt ∙ is_some-position p (take i places))
          ∙ sym (list_any_more p places i no_place c.loop-place-test.true) ∙ sym (is_some-position p (take (i + 1) places));
    }
