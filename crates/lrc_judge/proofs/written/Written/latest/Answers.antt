-- One node more, and all of them.
use Rattle.std.proofs.Common.{◌≡◌, ℕ, List, subst, arith}
use Rattle.std.specs.Prelude.{Contains, IsTrue, MatchOption}
use Rattle.lrc_judge.specs.declared.TheConstants.{NODES}
use Rattle.lrc_judge.specs.declared.lanes.Entry.{Entry}
use Rattle.lrc_judge.specs.Order.{is_before}
use Rattle.lrc_judge.specs.Lanes.{entry, IsLastOfLane}
use Rattle.lrc_judge.specs.Pairs.{word_lane}
use Rattle.lrc_judge.specs.Written.{IsLatestBelow}
use Rattle.lrc_judge.proofs.LatestWrites.{latest_more}
use Rattle.lrc_judge.proofs.written.Written.latest.Goals as goal

pub loop-node-preserved : goal.loop-node-preserved
loop-node-preserved c =
    let written = c.args.self.now in
    let lane = word_lane c.args.word c.loop-node.node in
    rw c.later_of-latest.ensures (latest_more written c.args.word c.args.position c.loop-node.node c.loop-node.latest
    c.last_before-found.result c.loop-node.invariant
    (subst (λ (es : List Entry). MatchOption c.last_before-found.result
    ((k : ℕ) → Contains es (entry lane k) → IsTrue (is_before written.order k c.args.position) → ⊥)
    (IsLastOfLane es written.order lane c.args.position)) c.as_slice.ensures.value c.last_before-found.ensures))

pub returns : goal.returns
returns c =
    let at : c.loop-node.node ≡ NODES = omega arith in
    subst (λ n. IsLatestBelow c.args.self.now c.args.word n c.args.position c.loop-node.latest) at c.loop-node.invariant
