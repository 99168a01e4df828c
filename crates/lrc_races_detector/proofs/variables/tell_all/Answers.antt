-- The pair with the entry at one place more.
use Rattle.std.proofs.Common.{[], ◌∷◌, ◌++◌, length, take, sym, ◌∙◌, ap, append_assoc}
use Rattle.std.specs.Prelude.{option_to_list}
use Rattle.std.proofs.lemmas.List.{append-nil}
use Rattle.lrc_races_detector.specs.Placed.{row_in}
use Rattle.lrc_races_detector.specs.Variables.{told_below}
use Rattle.lrc_races_detector.proofs.Telling.{told-next}
use Rattle.lrc_races_detector.specs.Vectors.{entries}
use Rattle.lrc_races_detector.proofs.variables.tell_all.Goals as goal
use Rattle.lrc_races_detector.proofs.variables.tell_all.Goals.{in-Some+in_ok-push, in_default}

pub loop-place-preserved : goal.loop-place-preserved
loop-place-preserved c =
    let row = row_in c.args.lasts.now (take c.loop-place.place-index c.args.order.now) in
    let before = told_below row (entries c.args.known) c.args.later c.args.is_write (length row) in
    let next = told-next c.args.lasts.now c.args.order.now (entries c.args.known) c.args.later c.args.is_write c.loop-place.place-index _ c.told_at.result
    c.loop-place-test.true c.told_at.ensures in
    elim c.match-told_at.branch [
      | in-Some+in_ok-push w ↦
          let one = ap (λ o. before ++ option_to_list o) w.in-Some.is in
          ap (λ v. v.items) w.told-is ∙ w.in_ok-push.ensures.items ∙ ap (λ xs. xs ++ w.in-Some.pair ∷ []) c.loop-place.invariant
          ∙ append_assoc c.args.told.now.items before (w.in-Some.pair ∷ []) ∙ ap (λ xs. c.args.told.now.items ++ xs) (sym (next ∙ one))
      | in_default w ↦
          let none = ap (λ o. before ++ option_to_list o) w.in_default.is in
          ap (λ v. v.items) w.told-is ∙ c.loop-place.invariant ∙ ap (λ xs. c.args.told.now.items ++ xs) (sym (next ∙ none ∙ append-nil before))
    ]
