use Rattle.std.proofs.Common.{◌≡◌, ◌+◌, ◌∙◌, sym, subst, arith}
use Rattle.std.proofs.lemmas.Bool.{true≢false}
use Rattle.lrc_exec.specs.States.{plain_at}
use Rattle.lrc_orders.specs.declared.noted.Noted.{Noted}
use Rattle.lrc_orders.proofs.Faults.{fault_up}
use Rattle.lrc_orders_table.specs.Tables.{IsLongFault, IsTakenFrom, KeepsIfLong}
use Rattle.lrc_orders_table.proofs.Keeping.{keeps_again, keeps_same}
use Rattle.lrc_orders_table.proofs.RowNodes.{node_at}
use Rattle.lrc_orders_table.proofs.Seeing.{spots_count}
use Rattle.lrc_orders_table.proofs.Together.{AllGone, all_gone_first, all_gone_on, goes_here, leads_together, long_together_from, taken_waits, waiting_here}
use Rattle.lrc_orders_table.proofs.table.Table.together.Goals as goal

pub loop-node-init : goal.loop-node-init
loop-node-init c = record {
  known = c.requires.table;
  keeps = keeps_same c.args.self.now;
  gone = λ key of. all_gone_first c.args.means.now key c.args.self.now c.args.row.now of;
}

pub gone-requires-clause-row : goal.gone-requires-clause-row
gone-requires-clause-row c =
    let means = c.args.means.now in
    let old = c.args.self.now in
    let row = c.args.row.now in
    let node = c.loop-node.node in
    let (key, from) = c.requires.from in
    let of = from.of in
    let all = (c.all_wait.ensures means key c.requires.table of).0 c.if-not-all_wait.false in
    let a = c.loop-node.invariant.gone key of in
    let at = node_at old row key node of.stands c.loop-node-test.true in
    record {
      key = a.new;
      of = a.of;
      spot = at.spot;
      here = a.rest node (omega arith) ∙ at.here;
      goes = goes_here means key of.valid of.stands.counted all node at.spot at.here;
    }

pub returns-in_err-led-clause-faults : goal.returns-in_err-led-clause-faults
returns-in_err-led-clause-faults c =
    let means = c.args.means.now in
    let old = c.args.self.now in
    let row = c.args.row.now in
    let node = c.loop-node.node in
    fault_up c.from_residual.result c.in_err-led.field-0.0 (λ f. (key : Noted) → IsTakenFrom means old row key → IsLongFault means key f)
    c.from_residual.ensures.1
    (λ key from.
    let of = from.of in
    let all = (c.all_wait.ensures means key c.requires.table of).0 c.if-not-all_wait.false in
    let a = c.loop-node.invariant.gone key of in
    let at = node_at old row key node of.stands c.loop-node-test.true in
    let long = c.in_err-led.ensures.faults a.new a.of in
    record {
      nodes = long.nodes;
      many = λ e. long_together_from means key of.valid of.stands.counted all node at.spot at.here
          (long.many e at.spot (a.rest node (omega arith) ∙ at.here));
    })

pub loop-node-preserved : goal.loop-node-preserved
loop-node-preserved c =
    let means = c.args.means.now in
    let i = c.loop-node.invariant in
    let e = c.in_ok-led.ensures in
    let node = c.loop-node.node in
    record {
      known = e.table;
      keeps = keeps_again i.keeps e.keeps;
      gone = λ key of.
          let all = (c.all_wait.ensures means key c.requires.table of).0 c.if-not-all_wait.false in
          let a = i.gone key of in
          let g = e.gone a.new a.of in
          subst (AllGone means key (node + 1) c.gone.new.self c.in_ok-led.led.row) (sym c.either-traps.ensures)
          (all_gone_on means key node c.loop-node.self c.gone.new.self c.loop-node.new c.loop-node.traps c.in_ok-led.led a g
          (waiting_here means key of.valid of.stands.counted all node g.spot (sym (a.rest node (omega arith)) ∙ g.here)));
    }

pub returns-clause-taken : goal.returns-clause-taken
returns-clause-taken c = λ key from.
    let means = c.args.means.now in
    let old = c.args.self.now in
    let row = c.args.row.now in
    let node = c.loop-node.node in
    let of = from.of in
    let all = (c.all_wait.ensures means key c.requires.table of).0 c.if-not-all_wait.false in
    let past : node ≡ old.rows.nodes = omega (arith, c.loop-node-test.false, c.loop-node.auto.node-end) in
    let a = subst (λ k. AllGone means key k c.loop-node.self c.loop-node.new c.loop-node.traps) (past ∙ sym (spots_count means old row key c.requires.table of))
    (c.loop-node.invariant.gone key of) in
    leads_together means key of.valid of.stands.counted all c.requires.means c.loop-node.self c.loop-node.new c.loop-node.traps a

pub returns-then-not-all_wait-clause-taken : goal.returns-then-not-all_wait-clause-taken
returns-then-not-all_wait-clause-taken c = λ key from acts after takes.
    let means = c.args.means.now in
    let all = taken_waits (plain_at means.flat key.state) after acts takes in
    absurd (true≢false (sym ((c.all_wait.ensures means key c.requires.table from.of).1 all) ∙ c.if-not-all_wait.true))

pub returns-in_err-led-clause-long : goal.returns-in_err-led-clause-long
returns-in_err-led-clause-long c =
    fault_up c.from_residual.result c.in_err-led.field-0.0
    (KeepsIfLong c.args.means.now c.args.self.now c.gone.new.self) c.from_residual.ensures.1
    (λ e. let kept = c.in_err-led.ensures.long e in (kept.0, keeps_again c.loop-node.invariant.keeps kept.1))
