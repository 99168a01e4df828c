use Rattle.std.proofs.Common.{◌≡◌, ◌∙◌, ap, arith, false}
use Rattle.std.specs.Prelude.{slice_index_or}
use Rattle.std.proofs.lemmas.List.{get_or_past}
use Rattle.lrc_lazy_known.specs.Word.{number_before}
use Rattle.lrc_lazy_known.proofs.Made.{each_push, row_is}
use Rattle.lrc_lazy_known.proofs.word.row_without.Goals as goal

pub loop-other-preserved : goal.loop-other-preserved
loop-other-preserved c =
    let row = c.args.row.now in
    let within = c.count_without-width.ensures.within c.loop-other.other (omega (arith, c.loop-other-test.true, c.loop-other.auto.other-end)) in
    each_push (λ z b. b ≡ slice_index_or row (number_before c.args.first c.args.dropped z) false) c.loop-other.left.items c.push.new.self.items
    c.loop-other.other _ c.in_ok-push.ensures.items c.loop-other.invariant
    (ap (λ n. slice_index_or row n false) c.number_before.ensures)

pub returns-clause-above : goal.returns-clause-above
returns-clause-above c =
    let row = c.args.row.now in
    λ z.
    c.cut_row.ensures.same z
    ∙ row_is (λ z. slice_index_or row (number_before c.args.first c.args.dropped z) false) c.loop-other.left.items c.loop-other.other c.loop-other.invariant
    (λ z le. get_or_past row (number_before c.args.first c.args.dropped z) false
    (c.count_without-width.ensures.past z (omega (arith, le, c.loop-other-test.false, c.loop-other.auto.other-end)))) z
