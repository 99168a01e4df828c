use Rattle.std.proofs.Common.{◌≡◌, ◌≤◌, suc, refl, sym, subst, ap, ◌∙◌, arith, inl, inr, add-one}
use Rattle.std.specs.Prelude.{Some, slice_get}
use Rattle.std.proofs.lemmas.Bool.{cases_lt}
use Rattle.std.proofs.lemmas.Option.{slice_get-get_or}
use Rattle.lrc_exact_copies.specs.Copies.{CopyOf, with_one_interval}
use Rattle.lrc_exact_copies.specs.Learned.{with_row}
use Rattle.lrc_exact_copies.specs.Made.{in_row, interval_of, interval_or}
use Rattle.lrc_exact_copies.proofs.Rows.{row-empty, row-none, row-one}
use Rattle.lrc_exact_copies.proofs.learning.learn_row.Goals as goal

pub loop-index-init : goal.loop-index-init
loop-index-init c = (λ le. refl, λ shape node a state lt same old. row-none c.args.from (in_row c.args.row.now) c.args.first c.args.first state (omega arith) old)

pub loop-index-preserved : goal.loop-index-preserved
loop-index-preserved c =
    let row = c.args.row.now in
    let first = c.args.first in
    let from = c.args.from in
    let i = c.loop-index.index in
    let made = c.index-row-index.result in
    let low : first ≤ i = c.loop-index.auto.index in
    let there = c.requires.there in
    let test = c.loop-index-test.true in
    let stands : slice_get row i ≡ Some made = slice_get-get_or row i made (omega arith) ∙ ap Some (sym c.index-row-index.is) in
    let interval : in_row row (suc i) ≡ interval_of made = ap interval_or stands in (
      λ le. omega arith,
      λ shape node a state lt same old.
          let so_far = c.loop-index.invariant.1 shape node a state lt same old in
          let seen = with_row from (in_row row) first i state in
          subst (λ n. CopyOf shape node a c.args.now c.learn.new.self (with_row from (in_row row) first n state)) (sym (add-one i))
          (row-one from (in_row row) first i state low
          (subst (λ k. CopyOf shape node a c.args.now c.learn.new.self (with_one_interval from k seen)) (sym interval)
          (c.in_ok-learn.ensures shape node a seen lt same so_far))),
    )

pub returns : goal.returns
returns c = λ shape node a state lt same old.
    let row = c.args.row.now in
    let first = c.args.first in
    let last = c.args.last in
    let so_far = c.loop-index.invariant.1 shape node a state lt same old in
    elim (cases_lt first last) [
      | inl less ↦
          let low = c.loop-index-test.false in
          let high = c.loop-index.auto.index-end (omega arith) in
          let end : c.loop-index.index ≡ last = omega arith in
          subst (λ n. CopyOf shape node a c.args.now c.loop-index.copy (with_row c.args.from (in_row row) first n state)) end so_far
      | inr le ↦
          let still = c.loop-index.invariant.0 le in
          row-empty c.args.from (in_row row) first c.loop-index.index last state (omega arith) le so_far
    ]
