use Rattle.std.proofs.Common.{◌≡◌, ◌<◌, ◌≢◌, ◌∙◌, sym, ap, length, max, arith, below_more, get_or-set_other, get_or-set_same}
use Rattle.arrayvec.proofs.ArrayVecLemmas.{items-with_items}
use Rattle.lrc_time.specs.Time.{entry, Covers, joined}
use Rattle.lrc_time.proofs.Times.{joined-set, joined-covers, covers-below}
use Rattle.lrc_time.proofs.Time.join.Goals as goal

pub loop-node-preserved : goal.loop-node-preserved
loop-node-preserved c =
    let entries = c.loop-node.entries in
    let node = c.loop-node.node in
    let within : node < length entries = omega arith in
    let greatest : c.max.result ≡ max (entry entries node) (entry c.args.other.now node) =
    rw (← c.other.view_is, ← c.deref.ensures.0) c.max.ensures in
    record {
      same_join = joined-set entries c.args.other.now node c.max.result within greatest ∙ c.loop-node.invariant.same_join;
      above =
          below_more _ _
          (λ k h. let ne : k ≢ node = omega arith in rw get_or-set_other (c.loop-node.invariant.above k h))
          (rw get_or-set_same (omega arith));
    }

pub returns : goal.returns
returns c =
    let entries = c.loop-node.entries in
    let start : c.as_mut_slice-entries.result.now ≡ c.args.self.now =
    c.as_mut_slice-entries.ensures.value ∙ c.self.view_is in
    let long : length entries ≡ length c.args.self.now = c.loop-node.auto.entries ∙ ap length start in
    let covered : Covers entries c.args.other.now =
    covers-below entries c.args.other.now c.loop-node.node (omega arith) c.loop-node.invariant.above in
    items-with_items c.self.inside.entries entries (long ∙ sym (ap length c.self.view_is))
    ∙ sym (joined-covers entries c.args.other.now (omega arith) covered)
    ∙ c.loop-node.invariant.same_join
    ∙ ap (λ times. joined times c.args.other.now) start
