use Rattle.std.proofs.Common.{◌≡◌, ◌∙◌, ◌<◌, ◌+◌, ℕ, ap, arith, slice_set, subst, sym}
use Rattle.lrc_chart_acts.specs.Times.{count_closed}
use Rattle.lrc_chart_acts.proofs.Closing.{all_kept, kept_many}
use Rattle.lrc_chart_acts.proofs.Filling.{all_filled, filled, length_filled}
use Rattle.lrc_chart_acts.proofs.times.time_known.Goals as goal

pub count_closed-requires-clause-closings : goal.count_closed-requires-clause-closings
count_closed-requires-clause-closings c =
    all_kept c.args.acts.now c.args.closings.now (λ v. v.items) c.args.nodes c.requires.closings

pub count_closed-requires-clause-node : goal.count_closed-requires-clause-node
count_closed-requires-clause-node c =
    let many = kept_many c.args.acts.now c.args.closings.now (λ v. v.items) c.args.nodes c.requires.closings in
    omega (arith, many, c.loop-node-test.true)

pub set-requires : goal.set-requires
set-requires c =
    let of : ℕ → ℕ = λ node. count_closed c.args.order.now c.args.acts.now c.args.position node (c.args.position + 1) in
    subst (λ n. c.loop-node.node < n)
    (sym (length_filled of c.args.nodes c.loop-node.node c.loop-node.time c.loop-node-test.true c.loop-node.invariant)) c.loop-node-test.true

pub loop-node-preserved : goal.loop-node-preserved
loop-node-preserved c =
    let of : ℕ → ℕ = λ node. count_closed c.args.order.now c.args.acts.now c.args.position node (c.args.position + 1) in
    c.set.ensures ∙ ap (slice_set c.loop-node.time c.loop-node.node) c.count_closed.ensures
    ∙ filled of c.args.nodes c.loop-node.node c.loop-node.time c.loop-node-test.true c.loop-node.invariant

pub returns : goal.returns
returns c =
    let of : ℕ → ℕ = λ node. count_closed c.args.order.now c.args.acts.now c.args.position node (c.args.position + 1) in
    let all : c.loop-node.node ≡ c.args.nodes = omega (arith, c.loop-node-test.false, c.loop-node.auto.node-end) in
    all_filled of c.args.nodes c.loop-node.node c.loop-node.time all c.loop-node.invariant
