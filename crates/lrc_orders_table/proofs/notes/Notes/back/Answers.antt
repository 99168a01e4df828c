use Rattle.std.proofs.Common.{◌≡◌, subst, arith}
use Rattle.std.specs.Prelude.{◌-◌, reverse}
use Rattle.lrc_orders.specs.Notes.{notes_from}
use Rattle.lrc_orders_table.proofs.Linking.{back_step}
use Rattle.lrc_orders_table.proofs.notes.Notes.back.Goals as goal

pub loop-step-preserved : goal.loop-step-preserved
loop-step-preserved c made h =
    back_step c.args.self.now.links.keys c.args.lasts.now made c.loop-step.acts.items c.put_back.new.acts.items c.loop-step.step c.loop-step-test.true h
    (c.loop-step.invariant made h) c.in_ok-put_back.ensures

pub returns : goal.returns
returns c made h =
    let stop : c.loop-step.step ≡ 16 = omega (arith, c.loop-step-test.false, c.loop-step.auto.step-end) in
    subst (λ n. c.loop-step.acts.items ≡ reverse (notes_from (16 - n) n made)) stop
    (c.loop-step.invariant made h)
