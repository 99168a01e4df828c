use Rattle.std.proofs.Common.{◌≡◌, ◌<◌, ◌∙◌, true, refl, sym, ap, arith, below_more}
use Rattle.std.proofs.lemmas.Bool.{true≢false}
use Rattle.lrc_orders.proofs.Standing.{all_stopped}
use Rattle.lrc_orders_table.specs.Shared.{is_stopped}
use Rattle.lrc_orders_table.specs.Tables.{next_at}
use Rattle.lrc_orders_table.proofs.Seeing.{going_known, spots_count, stopped_known}
use Rattle.lrc_orders_table.proofs.table.Table.is_unfinished.Goals as goal

pub loop-node-preserved : goal.loop-node-preserved
loop-node-preserved c =
    let table = c.args.self.now in
    let row = c.args.row.now in
    below_more (λ k. is_stopped (next_at table row k) ≡ true) c.loop-node.node c.loop-node.invariant
    (ap is_stopped (sym c.next.ensures.at) ∙ sym c.is_stopped.ensures ∙ c.if-not-is_stopped.false)

pub returns-then-not-is_stopped : goal.returns-then-not-is_stopped
returns-then-not-is_stopped c = λ means key known of.
    let table = c.args.self.now in
    let row = c.args.row.now in
    let node = c.loop-node.node in
    let lt : node < table.rows.nodes = omega (arith, c.loop-node-test.true, c.loop-node.auto.node-end) in (
      λ yes.
          going_known means table row key known of node lt
          (ap is_stopped (sym c.next.ensures.at) ∙ sym c.is_stopped.ensures ∙ c.if-not-is_stopped.true),
      λ on. refl,
    )

pub returns : goal.returns
returns c = λ means key known of.
    let table = c.args.self.now in
    let row = c.args.row.now in
    let node = c.loop-node.node in
    let past : table.rows.nodes ≡ node = omega (arith, c.loop-node-test.false, c.loop-node.auto.node-end) in (
      λ no. absurd (true≢false (sym no)),
      λ on. absurd (all_stopped means.flat key.state node (spots_count means table row key known of ∙ past)
          (λ k lt. stopped_known means table row key known of k (omega (arith, lt, past)) (c.loop-node.invariant k lt)) on),
    )
