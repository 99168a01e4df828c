-- A node more that does not write the value.
use Rattle.std.proofs.Common.{ℕ, List, subst}
use Rattle.std.specs.Prelude.{Contains, IsTrue}
use Rattle.lrc_judge.specs.declared.lanes.Entry.{Entry}
use Rattle.lrc_judge.specs.declared.lanes.Lane.{Lane}
use Rattle.lrc_judge.specs.Order.{is_before}
use Rattle.lrc_judge.specs.Lanes.{entry}
use Rattle.lrc_judge.proofs.LatestWrites.{value_none}
use Rattle.lrc_judge.proofs.written.Written.has.Goals as goal

pub loop-node-preserved : goal.loop-node-preserved
loop-node-preserved c =
    let written = c.args.self.now in
    let lane : Lane = record { word = c.args.word; value = c.args.value; node = c.loop-node.node } in
    value_none written c.args.word c.args.value c.args.position c.loop-node.node
    (subst (λ (es : List Entry). (k : ℕ) → Contains es (entry lane k) → IsTrue (is_before written.order k c.args.position) → ⊥)
    c.as_slice.ensures.value c.in_default.ensures) c.loop-node.invariant
