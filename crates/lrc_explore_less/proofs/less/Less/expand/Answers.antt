use Rattle.std.proofs.Common.{◌≡◌, arith}
use Rattle.lrc_orders.specs.declared.search.ExploreFault.TheVariants.{TooMany}
use Rattle.lrc_orders.proofs.Faults.{fault_up}
use Rattle.lrc_orders_settling.specs.declared.step.Step.TheVariants.{Together}
use Rattle.lrc_explore.proofs.Keys.{after_at_grown, each_more, expanded_at, within_more}
use Rattle.lrc_explore_less.specs.Passing.{IsCutLess}
use Rattle.lrc_explore_less.proofs.Expanding.{trapless_all, trapless_first, trapless_more}
use Rattle.lrc_explore_less.proofs.Ways.{widens_again}
use Rattle.lrc_explore_less.proofs.less.Less.expand.Goals as goal

pub expand_step-requires-in-loop-node-clause-within : goal.expand_step-requires-in-loop-node-clause-within
expand_step-requires-in-loop-node-clause-within c =
    within_more c.args.task.now c.args.self.now.found c.loop-node.self.found c.args.place c.requires.less.sound.found c.loop-node.invariant.widens.found
    c.requires.within

pub loop-node-init : goal.loop-node-init
loop-node-init c =
    let task = c.args.task.now in
    let e = c.in_ok-expand_step.ensures in
    record {
      less = e.less;
      widens = e.widens;
      all = e.after;
      each = λ k lt. absurd (omega (arith, lt));
      trapless = trapless_first task c.expand_step.new.self.found.table.rows _ c.args.place e.shows;
    }

pub loop-node-preserved : goal.loop-node-preserved
loop-node-preserved c =
    let i = c.loop-node.invariant in
    let task = c.args.task.now in
    let first = c.args.self.now in
    let old = c.loop-node.self in
    let new = c.expand_step-in-loop-node.new.self in
    let place = c.args.place in
    let e = c.in_ok-expand_step-2.ensures in
    let w = e.widens in
    let full = i.less.sound.found.reached.full place
    (within_more task first.found old.found place c.requires.less.sound.found i.widens.found c.requires.within) in
    record {
      less = e.less;
      widens = widens_again i.widens w;
      all = after_at_grown task old.found.table.rows new.found.table.rows place Together w.found.rows full i.all;
      each = each_more task old.found.table.rows new.found.table.rows place c.loop-node.node w.found.rows full i.each e.after;
      trapless = trapless_more task old.found.table.rows new.found.table.rows _ _ place c.loop-node.node w.found.rows full w.trap i.trapless e.shows;
    }

pub returns-clause-done : goal.returns-clause-done
returns-clause-done c =
    let i = c.loop-node.invariant in
    let task = c.args.task.now in
    let all = c.loop-node.self.found.table.rows in
    let place = c.args.place in
    let last = c.loop-node.node in
    let reached = i.less.sound.found.reached in
    record {
      expanded = expanded_at task all place last reached (omega (arith, c.loop-node-test.false)) i.all i.each;
      trapless = λ calm. let t = i.trapless calm in trapless_all task all place last reached (omega (arith, c.loop-node-test.false)) t.0 t.1;
    }

-- ---- where some node computes too long

pub returns-in_err-expand_step-clause-long : goal.returns-in_err-expand_step-clause-long
returns-in_err-expand_step-clause-long c =
    let task = c.args.task.now in
    let new = c.expand_step.new.self in
    fault_up c.from_residual.result c.in_err-expand_step.field-0.0
    (λ fault. fault ≡ TooMany → IsCutLess task c.args.self.now new) c.from_residual.ensures.1
    c.in_err-expand_step.ensures.long

pub returns-in_err-expand_step-2-clause-long : goal.returns-in_err-expand_step-2-clause-long
returns-in_err-expand_step-2-clause-long c =
    let task = c.args.task.now in
    let new = c.expand_step-in-loop-node.new.self in
    fault_up c.from_residual-in_err-expand_step-2.result c.in_err-expand_step-2.field-0.0
    (λ fault. fault ≡ TooMany → IsCutLess task c.args.self.now new) c.from_residual-in_err-expand_step-2.ensures.1
    (λ is.
    let l = c.in_err-expand_step-2.ensures.long is in
    record { less = l.less; widens = widens_again c.loop-node.invariant.widens l.widens; long = l.long })
