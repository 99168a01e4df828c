-- One node more, and all of them.
use Rattle.std.proofs.Common.{◌≡◌, subst, sym, ◌∙◌, arith}
use Rattle.lrc_judge.specs.declared.TheConstants.{NODES}
use Rattle.lrc_judge.specs.Adding.{Adds}
use Rattle.lrc_judge.specs.Pairs.{IsOfOthers}
use Rattle.lrc_judge.proofs.Crossing.{others-skip, others-more}
use Rattle.lrc_judge.proofs.pairs.add_of_others.Goals as goal

pub loop-other-preserved-then-other-from : goal.loop-other-preserved-then-other-from
loop-other-preserved-then-other-from c =
    let e = c.args.entry in
    let own : c.loop-other.other ≡ e.lane.node = c.if-other-from.true ∙ c.from.ensures in
    others-skip c.args.among.now c.args.order.now e.lane.word e.lane.node e.position c.loop-other.other c.args.pairs.now.items
    c.loop-other.pairs.items own c.loop-other.invariant

pub loop-other-preserved : goal.loop-other-preserved
loop-other-preserved c =
    let e = c.args.entry in
    others-more c.args.among.now c.args.order.now e.lane.word e.lane.node e.position c.loop-other.other c.args.pairs.now.items
    c.loop-other.pairs.items c.add_unordered.new.pairs.items (λ own. c.if-other-from.false (own ∙ sym c.from.ensures)) c.loop-other.invariant
    c.in_ok-guesses.ensures.pairs

pub returns : goal.returns
returns c =
    let e = c.args.entry in
    let at : c.loop-other.other ≡ NODES = omega arith in
    subst (λ n. Adds c.args.pairs.now.items c.loop-other.pairs.items
    (IsOfOthers c.args.among.now c.args.order.now e.lane.word e.lane.node n e.position)) at c.loop-other.invariant
