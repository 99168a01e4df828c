use Rattle.std.proofs.Common.{◌≡◌, ◌∙◌, ◌+◌, List, get_or, ap, length, sym, subst, refl}
use Rattle.std.proofs.lemmas.List.{length-set}
use Rattle.std.proofs.lemmas.List.Sums.{fold_more}
use Rattle.lrc_protocol.specs.Pages.{Copy}
use Rattle.lrc_time.specs.Time.{entry}
use Rattle.lrc_store.specs.Interval.{IntervalRecord, index_of}
use Rattle.lrc_store.specs.Store.{StoreRecord, IsStore, added}
use Rattle.lrc_memory.specs.View.{NodeMemory, IsKept, WasLast, node_seen, with_known}
use Rattle.lrc_memory.specs.Steps.{invalidated_on}
use Rattle.lrc_memory.proofs.Inside.{kept}
use Rattle.lrc_memory.proofs.InStep.{was-added}
use Rattle.lrc_memory.proofs.Learns.{kept-added, seen-added, in_range-seen, same-trans, page-within}
use Rattle.lrc_memory.proofs.Discards.{same-seen}
use Rattle.lrc_memory.proofs.memory.Memory.learn_one.Goals as goal

pub invariant_of-self-2 : goal.invariant_of-self-2
invariant_of-self-2 c =
    let k = kept c.self.inside in
    let store : c.add.new.self ≡ added k.store c.args.interval.now = c.in_ok-add.ensures.ok in
    subst (λ (s : StoreRecord). IsKept (record k { store = s })) (sym store)
    (kept-added k c.args.interval.now c.self.invariant
    (subst (λ (n : NodeMemory). index_of c.args.interval.now ≡ entry n.memory.store.last c.args.interval.now.node + 1) (sym c.self.view_is) c.requires.next)
    (in_range-seen k c.args.self.now c.args.interval.now c.self.view_is c.requires.in_range)
    (subst IsStore store c.add.ensures.sound))

pub loop-page-init : goal.loop-page-init
loop-page-init c =
    let k = kept c.self.inside in
    let store : c.add.new.self ≡ added k.store c.args.interval.now = c.in_ok-add.ensures.ok in record {
      so_far = ap (λ (s : StoreRecord). node_seen (record k { store = s })) store
          ∙ seen-added k c.args.interval.now c.self.invariant
          (subst (λ (n : NodeMemory). index_of c.args.interval.now ≡ entry n.memory.store.last c.args.interval.now.node + 1)
          (sym c.self.view_is) c.requires.next)
          ∙ ap (λ (n : NodeMemory). with_known n (record n.memory { store = added n.memory.store c.args.interval.now })) c.self.view_is;
      same = same-seen k (record k { store = c.add.new.self }) _ c.self.view_is refl refl refl
          (ap (λ (s : StoreRecord). length s.last) store ∙ length-set k.store.last c.args.interval.now.node (index_of c.args.interval.now));
    }

pub invalidate-requires-clause-in_range : goal.invalidate-requires-clause-in_range
invalidate-requires-clause-in_range c =
    page-within (kept c.self.inside) c.args.self.now c.loop-page.self c.args.interval.now.pages c.as_slice-page-items.result.now c.loop-page.page-index
    c.self.view_is c.self.invariant c.loop-page.invariant.same c.requires.in_range.pages
    (c.as_slice-page-items.ensures ∙ ap (λ (i : IntervalRecord). i.pages) c.interval.view_is) c.loop-page-test.true

pub invalidate-requires-clause-in_step : goal.invalidate-requires-clause-in_step
invalidate-requires-clause-in_step c = λ step.
    let before = c.args.before.now in
    subst (λ (m : NodeMemory). WasLast m.memory.store before) (sym c.loop-page.invariant.so_far)
    (was-added c.args.self.now.memory.store c.args.interval.now before c.requires.next c.requires.in_range.node (c.requires.in_step step))

pub loop-page-preserved : goal.loop-page-preserved
loop-page-preserved c =
    let before = c.args.before.now in
    let n = c.args.self.now in
    let items = c.as_slice-page-items.result.now in record {
      so_far = c.in_ok-invalidate.ensures.ok
          ∙ ap (λ (m : NodeMemory). with_known m (record m.memory { copies = invalidated_on before m.memory.copies (get_or items c.loop-page.page-index 0) }))
          c.loop-page.invariant.so_far
          ∙ ap (λ (cs : List Copy). with_known n (record n.memory { store = added n.memory.store c.args.interval.now; copies = cs }))
          (sym (fold_more (invalidated_on before) n.memory.copies items c.loop-page.page-index 0 c.loop-page-test.true));
      same = same-trans n c.loop-page.self c.invalidate.new.self c.loop-page.invariant.same c.invalidate.ensures.same;
    }
