use Rattle.std.proofs.Common.{◌≡◌, ◌∙◌, ap, arith, length}
use Rattle.lrc_lazy_known.specs.Word.{above_written}
use Rattle.lrc_lazy_known.proofs.Made.{each_push, row_is, written_past}
use Rattle.lrc_lazy_known.proofs.word.row_written.Goals as goal

pub loop-other-preserved : goal.loop-other-preserved
loop-other-preserved c =
    each_push (λ z b. b ≡ above_written c.args.word.now c.args.writer c.args.knower z) c.loop-other.row.items c.push.new.self.items
    c.loop-other.other _ c.in_ok-push.ensures.items c.loop-other.invariant c.is_above_written.ensures

pub returns-clause-above : goal.returns-clause-above
returns-clause-above c =
    let word = c.args.word.now in
    let own = ap length c.row_of-own.ensures in
    λ z.
    c.cut_row.ensures.same z
    ∙ row_is (λ z. above_written word c.args.writer c.args.knower z) c.loop-other.row.items c.loop-other.other c.loop-other.invariant
    (λ z le. written_past word c.args.writer c.args.knower z
    (omega (arith, own, c.past-width.ensures.count, c.loop-other-test.false, c.loop-other.auto.other-end, le))
    (λ same. omega (arith, same, c.past-width.ensures.number, c.loop-other-test.false, c.loop-other.auto.other-end, le))) z
