use Rattle.std.proofs.Common.{◌∙◌, ◌+◌, List, length, drop, take, ap, sym, subst, refl, arith}
use Rattle.std.specs.Prelude.{fold}
use Rattle.std.proofs.lemmas.List.{take_all}
use Rattle.std.proofs.lemmas.List.Sums.{fold_more}
use Rattle.lrc_store.specs.Interval.{IntervalRecord}
use Rattle.lrc_protocol.specs.Pages.{Memory}
use Rattle.lrc_memory.specs.Steps.{learned_one}
use Rattle.lrc_memory.specs.Turns.{CanBeAdded}
use Rattle.lrc_memory.specs.View.{NodeMemory, WasLast, with_known}
use Rattle.lrc_memory.proofs.Inside.{kept}
use Rattle.lrc_memory.proofs.InStep.{was-added, was-now, was-seen}
use Rattle.lrc_memory.proofs.Learns.{can-at, can-go_on, head-next, learned-all, same-same, same-trans}
use Rattle.lrc_memory.proofs.memory.Memory.learn.Goals as goal

pub is_last-in_step-requires : goal.is_last-in_step-requires
is_last-in_step-requires c = c.requires.before ∙ sym (ap (λ (n : NodeMemory). length n.memory.store.last) c.self.view_is)

pub loop-interval-init : goal.loop-interval-init
loop-interval-init c = record {
  so_far = refl;
  rest = subst (CanBeAdded c.args.self.now.memory.store) (sym c.as_slice-interval-items.ensures.all) c.requires.intervals;
  same = same-same c.args.self.now;
  in_step = λ step.
      let k = kept c.self.inside in
      was-seen k _ c.args.before.now c.self.view_is
      (was-now k.store c.args.before.now c.self.invariant.store (c.is_last-in_step.ensures.0 step));
}

pub learn_one-requires : goal.learn_one-requires
learn_one-requires c =
    let k = c.loop-interval.interval-index in
    let item = c.interval-item.result in
    let items = c.as_slice-interval-items.result.now in
    let can = can-at c.loop-interval.self.memory.store items k item c.loop-interval-test.true c.interval-item.is c.loop-interval.invariant.rest in record {
      before = c.requires.before ∙ sym c.loop-interval.invariant.same.nodes;
      in_step = c.loop-interval.invariant.in_step;
      in_range = can.in_range 0 item (omega arith);
      next = head-next c.loop-interval.self.memory.store item (drop (k + 1) items) can;
    }

pub loop-interval-preserved : goal.loop-interval-preserved
loop-interval-preserved c =
    let before = c.args.before.now in
    let n = c.args.self.now in
    let k = c.loop-interval.interval-index in
    let item = c.interval-item.result in
    let items = c.as_slice-interval-items.result.now in
    let can = can-at c.loop-interval.self.memory.store items k item c.loop-interval-test.true c.interval-item.is c.loop-interval.invariant.rest in record {
      so_far = c.in_ok-learn_one.ensures.ok
          ∙ ap (λ (m : NodeMemory). with_known m (learned_one before m.memory item)) c.loop-interval.invariant.so_far
          ∙ ap (λ (m : Memory). with_known n m)
          (ap (learned_one before (fold (learned_one before) n.memory (take k items))) c.interval-item.is
          ∙ sym (fold_more (learned_one before) n.memory items k item c.loop-interval-test.true));
      rest = subst (λ (m : NodeMemory). CanBeAdded m.memory.store (drop (k + 1) items)) (sym c.in_ok-learn_one.ensures.ok)
          (can-go_on c.loop-interval.self.memory.store item (drop (k + 1) items) can);
      same = same-trans n c.loop-interval.self c.learn_one.new.self c.loop-interval.invariant.same c.learn_one.ensures.same;
      in_step = λ step.
          subst (λ (m : NodeMemory). WasLast m.memory.store before) (sym c.in_ok-learn_one.ensures.ok)
          (was-added c.loop-interval.self.memory.store item before (head-next c.loop-interval.self.memory.store item (drop (k + 1) items) can)
          ((can.in_range 0 item (omega arith)).node) (c.loop-interval.invariant.in_step step));
    }

pub returns-clause-ok : goal.returns-clause-ok
returns-clause-ok c =
    let before = c.args.before.now in
    let n = c.args.self.now in
    let items = c.as_slice-interval-items.result.now in
    c.loop-interval.invariant.so_far
    ∙ ap (λ (is : List IntervalRecord). with_known n (fold (learned_one before) n.memory is))
    (take_all c.loop-interval.interval-index items c.loop-interval-test.false ∙ c.as_slice-interval-items.ensures.all)
    ∙ ap (λ (m : Memory). with_known n m) (learned-all before c.args.intervals.now n.memory)
