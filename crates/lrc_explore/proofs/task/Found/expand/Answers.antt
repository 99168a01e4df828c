use Rattle.std.proofs.Common.{◌+◌, refl, sym, subst, arith}
use Rattle.std.specs.Prelude.{is_some}
use Rattle.lrc_orders_settling.specs.declared.step.Step.TheVariants.{Alone, Together}
use Rattle.lrc_explore.specs.Cut.{IsStepped, traps_in}
use Rattle.lrc_explore.specs.Traps.{KeepsTrapless}
use Rattle.lrc_explore.proofs.Keys.{after_at_grown, each_more, expanded_at, more_again, within_more}
use Rattle.lrc_explore.proofs.Trapless.{keeps_first, keeps_on}
use Rattle.lrc_explore.proofs.Trapping.{IsTrapAmong, among_all, among_first, among_named, among_on}
use Rattle.lrc_explore.proofs.task.Found.expand.Goals as goal

pub expand_step-requires-in-loop-node-clause-within : goal.expand_step-requires-in-loop-node-clause-within
expand_step-requires-in-loop-node-clause-within c =
    within_more c.args.task.now c.args.self.now c.loop-node.self c.args.place c.requires.found c.loop-node.invariant.more c.requires.within

pub loop-node-init : goal.loop-node-init
loop-node-init c =
    let task = c.args.task.now in
    let was = c.args.self.now.table.rows in
    let all = c.expand_step.new.self.table.rows in
    let place = c.args.place in
    let together = c.in-Past.together in
    let e = c.in_ok-together.ensures in
    let s = subst (IsStepped task all place Together) c.in-Past.is e.stepped in
    record {
      found = e.found;
      more = e.more;
      all = s.0;
      each = λ k lt. absurd (omega (arith, lt));
      trap =
          subst (IsTrapAmong task all place 0) (sym c.first_step-trap.ensures)
          (among_first task all place together s.1);
      trapless =
          subst (λ t. KeepsTrapless task was all (is_some t)) (sym c.first_step-trap.ensures)
          (keeps_first task was all together Together
          (subst (λ s. KeepsTrapless task was all (traps_in s)) c.in-Past.is e.trapless));
    }

pub loop-node-preserved : goal.loop-node-preserved
loop-node-preserved c =
    let i = c.loop-node.invariant in
    let task = c.args.task.now in
    let first = c.args.self.now in
    let old = c.loop-node.self in
    let new = c.expand_step-in-loop-node.new.self.table.rows in
    let place = c.args.place in
    let node = c.loop-node.node in
    let alone = c.in-Past-2.alone in
    let e = c.in_ok-alone.ensures in
    let s = subst (IsStepped task new place (Alone node)) c.in-Past-2.is e.stepped in
    let full = i.found.reached.full place (within_more task first old place c.requires.found i.more c.requires.within) in
    record {
      found = e.found;
      more = more_again i.more e.more;
      all = after_at_grown task old.table.rows new place Together e.more.rows full i.all;
      each = each_more task old.table.rows new place node e.more.rows full i.each s.0;
      trap =
          subst (IsTrapAmong task new place (node + 1)) (sym c.first_step-trap-in-Past-2.ensures)
          (among_on task old.table.rows new place node c.loop-node.trap alone e.more.rows full i.trap s.1);
      trapless =
          subst (λ t. KeepsTrapless task first.table.rows new (is_some t)) (sym c.first_step-trap-in-Past-2.ensures)
          (keeps_on task first.table.rows old.table.rows new c.loop-node.trap alone (Alone node) i.trapless
          (subst (λ s. KeepsTrapless task old.table.rows new (traps_in s)) c.in-Past-2.is e.trapless));
    }

pub returns-clause-steps : goal.returns-clause-steps
returns-clause-steps c =
    let i = c.loop-node.invariant in
    let task = c.args.task.now in
    let all = c.loop-node.self.table.rows in
    let place = c.args.place in
    let node = c.loop-node.node in (
      expanded_at task all place node i.found.reached (omega (arith, c.loop-node-test.false)) i.all i.each,
      among_all task all place node c.loop-node.trap i.found.reached (omega (arith, c.loop-node-test.false)) i.trap,
    )

-- ---- where some node computes too long

pub returns-in-Long-clause-steps : goal.returns-in-Long-clause-steps
returns-in-Long-clause-steps c =
    let all = c.expand_step.new.self.table.rows in
    (subst (IsStepped c.args.task.now all c.args.place Together) c.in-Long.is c.in_ok-together.ensures.stepped, tt)

pub returns-in-Long-clause-trapless : goal.returns-in-Long-clause-trapless
returns-in-Long-clause-trapless c =
    let was = c.args.self.now.table.rows in
    let all = c.expand_step.new.self.table.rows in
    subst (λ s. KeepsTrapless c.args.task.now was all (traps_in s)) c.in-Long.is c.in_ok-together.ensures.trapless

pub returns-in-Long-2-clause-more : goal.returns-in-Long-2-clause-more
returns-in-Long-2-clause-more c = more_again c.loop-node.invariant.more c.in_ok-alone.ensures.more

pub returns-in-Long-2-clause-steps : goal.returns-in-Long-2-clause-steps
returns-in-Long-2-clause-steps c =
    let i = c.loop-node.invariant in
    let task = c.args.task.now in
    let old = c.loop-node.self in
    let new = c.expand_step-in-loop-node.new.self.table.rows in
    let place = c.args.place in
    let e = c.in_ok-alone.ensures in
    let within = within_more task c.args.self.now old place c.requires.found i.more c.requires.within in
    let full = i.found.reached.full place within in (
      subst (IsStepped task new place (Alone c.loop-node.node)) c.in-Long-2.is e.stepped,
      among_named task old.table.rows new place c.loop-node.node c.loop-node.trap e.more.rows full i.trap,
    )

pub returns-in-Long-2-clause-trapless : goal.returns-in-Long-2-clause-trapless
returns-in-Long-2-clause-trapless c = λ none calm.
    let old = c.loop-node.self.table.rows in
    let new = c.expand_step-in-loop-node.new.self.table.rows in
    subst (λ s. KeepsTrapless c.args.task.now old new (traps_in s)) c.in-Long-2.is c.in_ok-alone.ensures.trapless refl
    (c.loop-node.invariant.trapless none calm)
