use Rattle.std.proofs.Common.{◌≡◌, ◌≤◌, suc, refl, sym, subst, ap, ◌∙◌, arith, inl, inr, add-one}
use Rattle.std.specs.Prelude.{Some, slice_get}
use Rattle.std.proofs.lemmas.Bool.{cases_lt}
use Rattle.std.proofs.lemmas.Option.{slice_get-get_or}
use Rattle.lrc_exact.specs.Memory.{Interval}
use Rattle.lrc_exact.specs.Rule.{names_between}
use Rattle.lrc_exact_copies.specs.declared.made.Made.{Made}
use Rattle.lrc_exact_copies.specs.Made.{has, in_row, interval_of, interval_or}
use Rattle.lrc_exact_judge.specs.Keepers.{AddsKeeper}
use Rattle.lrc_exact_judge.proofs.Keeping.{row-begins, row-empty, row-more}
use Rattle.lrc_exact_judge.proofs.keepers.add_row.Goals as goal

pub loop-index-init : goal.loop-index-init
loop-index-init c = (λ le. refl, row-begins c.args.node (in_row c.args.row.now) c.args.first c.args.first c.args.keepers.now (omega arith))

pub loop-index-preserved : goal.loop-index-preserved
loop-index-preserved c =
    let row = c.args.row.now in
    let first = c.args.first in
    let i = c.loop-index.index in
    let made = c.index-row-index.result in
    let low : first ≤ i = c.loop-index.auto.index in
    let there = c.requires in
    let test = c.loop-index-test.true in
    let stands : slice_get row i ≡ Some made = slice_get-get_or row i made (omega arith) ∙ ap Some (sym c.index-row-index.is) in
    let interval : interval_of made ≡ in_row row (suc i) = sym (ap interval_or stands) in (
      λ le. omega arith,
      subst (λ n. AddsKeeper c.args.node (λ page. names_between (in_row row) page first n) c.args.keepers.now c.add_pages.new.keepers) (sym (add-one i))
          (row-more c.args.node (in_row row) first i c.args.keepers.now c.loop-index.keepers c.add_pages.new.keepers low c.loop-index.invariant.1
          (subst (λ (k : Interval). AddsKeeper c.args.node k.names c.loop-index.keepers c.add_pages.new.keepers) interval
          (subst (λ (m : Made). AddsKeeper c.args.node (has m.pages.items) c.loop-index.keepers c.add_pages.new.keepers) (sym c.index-row-index.is)
          (subst (λ xs. AddsKeeper c.args.node (has xs) c.loop-index.keepers c.add_pages.new.keepers) c.deref.ensures.value c.in_ok-add_pages.ensures)))),
    )

pub returns : goal.returns
returns c =
    let row = c.args.row.now in
    let first = c.args.first in
    let last = c.args.last in
    elim (cases_lt first last) [
      | inl less ↦
          let low = c.loop-index-test.false in
          let high = c.loop-index.auto.index-end (omega arith) in
          let end : c.loop-index.index ≡ last = omega arith in
          subst (λ n. AddsKeeper c.args.node (λ page. names_between (in_row row) page first n) c.args.keepers.now c.loop-index.keepers) end
          c.loop-index.invariant.1
      | inr le ↦
          let still = c.loop-index.invariant.0 le in
          row-empty c.args.node (in_row row) first c.loop-index.index last c.args.keepers.now c.loop-index.keepers (omega arith) le
          c.loop-index.invariant.1
    ]
