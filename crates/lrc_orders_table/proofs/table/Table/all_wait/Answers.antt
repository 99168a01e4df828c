use Rattle.std.proofs.Common.{◌≡◌, ◌<◌, ◌∙◌, true, refl, sym, ap, arith, below_more}
use Rattle.std.proofs.lemmas.Bool.{true≢false}
use Rattle.lrc_orders_table.specs.Shared.{is_waiting}
use Rattle.lrc_orders_table.specs.Tables.{next_at}
use Rattle.lrc_orders_table.proofs.Seeing.{threads_count, waiting_known}
use Rattle.lrc_orders_table.proofs.table.Table.all_wait.Goals as goal

pub loop-node-preserved : goal.loop-node-preserved
loop-node-preserved c =
    let table = c.args.self.now in
    let row = c.args.row.now in
    below_more (λ k. is_waiting (next_at table row k) ≡ true) c.loop-node.node c.loop-node.invariant
    (ap is_waiting (sym c.next.ensures.at) ∙ sym c.is_waiting.ensures ∙ c.if-not-is_waiting.false)

pub returns-then-not-is_waiting : goal.returns-then-not-is_waiting
returns-then-not-is_waiting c = λ means key known of.
    let table = c.args.self.now in
    let row = c.args.row.now in
    let node = c.loop-node.node in
    let lt : node < table.rows.nodes = omega (arith, c.loop-node-test.true, c.loop-node.auto.node-end) in (
      λ no. absurd (true≢false (sym no)),
      λ all.
          sym c.if-not-is_waiting.true ∙ c.is_waiting.ensures ∙ ap is_waiting c.next.ensures.at
          ∙ waiting_known means table row key known of node lt ∙ all.each node (omega (arith, lt, threads_count means table row key known of)),
    )

pub returns : goal.returns
returns c = λ means key known of.
    let table = c.args.self.now in
    let row = c.args.row.now in (
      λ yes. record {
        each = λ k below.
            let lt : k < table.rows.nodes = omega (arith, below, threads_count means table row key known of) in
            sym (waiting_known means table row key known of k lt)
            ∙ c.loop-node.invariant k (omega (arith, lt, c.loop-node-test.false, c.loop-node.auto.node-end));
      },
      λ all. refl,
    )
