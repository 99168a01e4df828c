use Rattle.std.proofs.Common.{◌<◌, ◌∙◌, ap, arith, inl, inr, length, refl, subst, sym}
use Rattle.std.specs.Prelude.{slice_get, slice_set}
use Rattle.std.proofs.lemmas.Bool.{cases_eq}
use Rattle.std.proofs.lemmas.List.{length-set}
use Rattle.std.proofs.lemmas.Option.{same_Some, slice_get_within}
use Rattle.lrc_orders.specs.declared.outcomes.Outcome.{Outcome}
use Rattle.lrc_orders.proofs.Keeping.{item_in}
use Rattle.lrc_protocol.proofs.Worlds.{get_set_other, get_set_same}
use Rattle.lrc_exact_seeds.specs.Seeds.{IsMarked}
use Rattle.lrc_exact_seeds.proofs.seeds.mark.Goals as goal

pub loop-place-preserved : goal.loop-place-preserved
loop-place-preserved c =
    let outcomes = c.args.outcomes.now in
    let notes = c.args.notes.now in
    let seed = c.args.seed in
    let i = c.loop-place.invariant in
    let place = c.loop-place.place in
    let first = c.args.seeds.now.items in
    let old = c.loop-place.seeds.items in
    let new = slice_set old place c.marked.result in
    let short : place < length old = omega (arith, c.loop-place-test.true, i.count, c.requires) in
    let before_at = item_in old old place c.index.result.now refl short c.index.ensures in
    let outcome_at = item_in outcomes outcomes place c.index-outcomes-place.result refl c.loop-place-test.true c.index-outcomes-place.is in
    record {
      count = length-set old place c.marked.result ∙ i.count;
      done = λ k outcome before after lt there was now. elim (cases_eq k place) [
        | inl same ↦
            let outcome_is = same_Some c.index-outcomes-place.result outcome (sym outcome_at ∙ ap (slice_get outcomes) (sym same) ∙ there) in
            let before_is = same_Some c.index.result.now before (sym before_at ∙ i.rest place (omega arith) ∙ ap (slice_get first) (sym same) ∙ was) in
            let after_is = same_Some c.marked.result after
            (sym (get_set_same old place c.index.result.now c.marked.result before_at) ∙ ap (slice_get new) (sym same) ∙ now) in
            subst (λ (o : Outcome). IsMarked o notes seed before after) outcome_is
            (subst (λ b. IsMarked c.index-outcomes-place.result notes seed b after) before_is
            (subst (λ a. IsMarked c.index-outcomes-place.result notes seed c.index.result.now a) after_is c.marked.ensures))
        | inr apart ↦
            i.done k outcome before after (omega (arith, lt, apart)) there was (sym (get_set_other old place k c.marked.result (λ e. apart (sym e))) ∙ now)
      ];
      rest = λ k le. get_set_other old place k c.marked.result (λ e. absurd (omega (arith, le, e))) ∙ i.rest k (omega (arith, le));
    }

pub returns : goal.returns
returns c =
    let i = c.loop-place.invariant in
    record {
      count = i.count;
      each = λ k outcome before after there was now.
          let within = slice_get_within c.args.outcomes.now k outcome there in
          i.done k outcome before after (omega (arith, within, c.loop-place-test.false)) there was now;
    }
