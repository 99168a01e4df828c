use Rattle.std.proofs.Common.{subst, sym, ◌∙◌, ap, ◌⊎◌, ◌≡◌, ◌<◌, ◌≤◌, length, arith}
use Rattle.std.specs.Prelude.{◌↔◌, Contains, insert, slice_index_or}
use Rattle.std.proofs.lemmas.List.{get_or_default}
use Rattle.lrc_lazy_known.proofs.Made.{insert_values}
use Rattle.lrc_lazy_known.proofs.Tidy.{inserted_rises, pushed_rises}
use Rattle.lrc_lazy_known.proofs.word.with_value.Goals as goal

pub returns-then-index-value-2-clause-values : goal.returns-then-index-value-2-clause-values
returns-then-index-value-2-clause-values c = λ v.
    subst (λ l. Contains l v ↔ (Contains c.args.values.now.items v ⊎ (v ≡ c.args.value)))
    (sym (c.in_ok-insert.ensures.items ∙ ap (λ l. insert l c.loop-place.place c.args.value) c.loop-place.invariant.same))
    (insert_values c.args.values.now.items c.loop-place.place c.args.value v)

pub returns-then-index-value-2-clause-rising : goal.returns-then-index-value-2-clause-rising
returns-then-index-value-2-clause-rising c =
    let now = c.loop-place.values.items in
    let within : c.loop-place.place < length now = omega arith in
    let read = get_or_default now c.loop-place.place c.index-in-loop-place.result.now 0 within in
    let more : c.args.value < slice_index_or now c.loop-place.place 0 = omega arith in
    inserted_rises c.args.values.now.items now c.insert.new.self.items c.loop-place.place c.args.value c.loop-place.invariant.same
    c.in_ok-insert.ensures.items within c.loop-place.invariant.less more

pub returns-clause-rising : goal.returns-clause-rising
returns-clause-rising c =
    let now = c.loop-place.values.items in
    let past : length now ≤ c.loop-place.place = omega arith in
    pushed_rises c.args.values.now.items now c.push.new.self.items c.loop-place.place c.args.value c.loop-place.invariant.same
    c.in_ok-push.ensures.items past c.loop-place.invariant.less
