use Rattle.std.proofs.Common.{◌≡◌, ◌∙◌, ◌+◌, arith, get_or, subst, sym}
use Rattle.std.specs.Prelude.{Some}
use Rattle.lrc_why.specs.Deeds.{word_accessed}
use Rattle.lrc_why.specs.Lanes.{IsNext, lane_of}
use Rattle.lrc_why.proofs.Chaining.{at_end, at_first, at_next, lane_any, no_act}
use Rattle.lrc_why.proofs.least.least_racing.Goals as goal

pub loop-k-init : goal.loop-k-init
loop-k-init c =
    let acts = c.args.acts.now in
    let node = c.args.node in
    let position = c.args.position in
    let lane = c.in-Some.lane in
    let is : Some lane ≡ lane_of node (word_accessed (get_or acts position no_act).deed) = c.in-Some.ensures in
    let next : IsNext acts lane 0 c.first-k.result = subst (IsNext acts lane 0) (sym c.first-k.ensures) (c.requires.lanes.firsts lane) in
    record {
      none = at_first acts node position no_act c.requires.within lane is c.first-k.result next;
      within = next.within;
      there = λ d less. next.there d less ∙ lane_any acts node position no_act c.requires.within lane is d;
    }

pub loop-k-preserved : goal.loop-k-preserved
loop-k-preserved c =
    let acts = c.args.acts.now in
    let node = c.args.node in
    let position = c.args.position in
    let lane = c.in-Some.lane in
    let k = c.loop-k.k in
    let is : Some lane ≡ lane_of node (word_accessed (get_or acts position no_act).deed) = c.in-Some.ensures in
    let next : IsNext acts lane (k + 1) c.next-k.result =
    subst (IsNext acts lane (k + 1)) (sym c.next-k.ensures)
    (c.requires.lanes.nexts k no_act lane (omega arith) c.loop-k-test.true (c.loop-k.invariant.there no_act c.loop-k-test.true ∙ sym is)) in
    record {
      none = at_next acts node position no_act c.requires.within lane is k c.next-k.result c.loop-k.invariant.none c.if-is_racing.ensures next;
      within = next.within;
      there = λ d less. next.there d less ∙ lane_any acts node position no_act c.requires.within lane is d;
    }

pub returns : goal.returns
returns c = at_end c.args.acts.now c.args.node c.args.position c.loop-k.k c.loop-k-test.false c.loop-k.invariant.none
