use Rattle.std.proofs.Common.{◌≡◌, ◌<◌, ◌∙◌, inl, inr, refl, sym, ap, arith}
use Rattle.std.specs.Prelude.{is_some}
use Rattle.std.proofs.lemmas.Bool.{cases_eq, true≢false}
use Rattle.lrc_orders.proofs.Standing.{all_still}
use Rattle.lrc_orders_table.specs.Shared.{can_act}
use Rattle.lrc_orders_table.specs.Tables.{next_at}
use Rattle.lrc_orders_table.proofs.Seeing.{act_known, none_of, spots_count}
use Rattle.lrc_orders_table.proofs.table.Table.is_still.Goals as goal

pub loop-node-preserved : goal.loop-node-preserved
loop-node-preserved c = λ k words holders lt at. elim (cases_eq k c.loop-node.node) [
  | inl same ↦
      ap (λ n. can_act (next_at c.args.self.now c.args.row.now n) holders c.all_wait-departs.result) same
      ∙ sym (c.can_act.ensures words holders at) ∙ c.if-can_act.false
  | inr apart ↦ c.loop-node.invariant k words holders (omega (arith, lt, apart)) at
]

pub returns-then-can_act : goal.returns-then-can_act
returns-then-can_act c = λ means key known of.
    let table = c.args.self.now in
    let row = c.args.row.now in
    let node = c.loop-node.node in
    let lt : node < table.rows.nodes = omega (arith, c.loop-node-test.true, c.loop-node.auto.node-end) in (
      λ no. absurd (true≢false (sym no)),
      λ still.
          sym (ap is_some (still node))
          ∙ sym (act_known means table row key known of node lt c.all_wait-departs.result (c.all_wait-departs.ensures means key known of))
          ∙ sym (c.can_act.ensures key.state.memory.items key.state.holders.items of.stands.shared) ∙ c.if-can_act.true,
    )

pub returns : goal.returns
returns c = λ means key known of.
    let table = c.args.self.now in
    let row = c.args.row.now in
    let node = c.loop-node.node in
    let past : table.rows.nodes ≡ node = omega (arith, c.loop-node-test.false, c.loop-node.auto.node-end) in (
      λ yes.
          all_still means.flat key.state node (spots_count means table row key known of ∙ past)
          (λ k lt.
          none_of _
          (sym (act_known means table row key known of k (omega (arith, lt, past)) c.all_wait-departs.result (c.all_wait-departs.ensures means key known of))
          ∙ c.loop-node.invariant k key.state.memory.items key.state.holders.items lt of.stands.shared)),
      λ still. refl,
    )
