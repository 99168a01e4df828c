-- Each act's row is pushed, and at the end the rows say the order.
use Rattle.std.proofs.Common.{◌≡◌, length, subst, arith}
use Rattle.std.proofs.lemmas.Result.{IfOk-from_err}
use Rattle.lrc_trace.specs.declared.act.Act.{Act}
use Rattle.lrc_trace.specs.declared.act.Deed.TheVariants.{Quiet}
use Rattle.lrc_trace.proofs.Positions.{Does-read, Does-one_node}
use Rattle.lrc_judge.specs.declared.order.Order.{Order}
use Rattle.lrc_judge.proofs.Rows.{AreRows, AreRows-none, AreRows-push, order_of}
use Rattle.lrc_judge.proofs.order.happens_before.Goals as goal

pub loop-position-init : goal.loop-position-init
loop-position-init c = record {
  past = c.in_ok-past.ensures c.args.acts.now;
  rows = rw c.new-rows.ensures.items (AreRows-none c.args.acts.now);
}

pub loop-position-preserved : goal.loop-position-preserved
loop-position-preserved c =
    let quiet : Act = record { node = 0; deed = Quiet } in
    let here = Does-read c.args.acts.now c.loop-position.position quiet c.loop-position-test.true in
    record {
      past = c.in_ok-note.ensures;
      rows = rw c.in_ok-push.ensures.items
          (AreRows-push c.args.acts.now c.loop-position.position c.loop-position.rows.items _ c.loop-position.invariant.rows (record {
            node = λ p d h. Does-one_node here h;
            reach = c.reach_of-reach.ensures;
          }));
    }

pub returns : goal.returns
returns c =
    let order : Order = record { rows = c.loop-position.rows } in
    let at : c.loop-position.position ≡ length c.args.acts.now = omega arith in
    order_of c.args.acts.now order (subst (λ n. AreRows c.args.acts.now n c.loop-position.rows.items) at c.loop-position.invariant.rows)

pub reach_of-reach-requires : goal.reach_of-reach-requires
reach_of-reach-requires c = record {
  past = c.loop-position.invariant.past;
  nodes = c.requires;
  within = c.loop-position-test.true;
}

pub note-requires : goal.note-requires
note-requires c = record {
  past = c.loop-position.invariant.past;
  reach = c.reach_of-reach.ensures;
  nodes = c.requires;
  within = c.loop-position-test.true;
}

pub returns-in_err-past : goal.returns-in_err-past
returns-in_err-past c = IfOk-from_err c.from_residual.result _ c.from_residual.ensures.0

pub returns-in_err-note : goal.returns-in_err-note
returns-in_err-note c = IfOk-from_err c.from_residual-in_err-note.result _ c.from_residual-in_err-note.ensures.0

pub returns-in_err-push : goal.returns-in_err-push
returns-in_err-push c = IfOk-from_err c.from_residual-in_err-push.result _ c.from_residual-in_err-push.ensures.0
