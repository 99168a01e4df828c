use Rattle.std.proofs.Common.{◌≡◌, ◌∙◌, ◌+◌, ◌<◌, ap, length, get_or, refl, sym, subst, arith, [], length-set}
use Rattle.std.specs.Prelude.{All}
use Rattle.std.proofs.lemmas.List.{get_or_default, length-map}
use Rattle.std.proofs.lemmas.Result.{IfOk-from_err}
use Rattle.lrc_time.specs.Time.{entry}
use Rattle.lrc_store.specs.Interval.{IntervalRecord, index_of}
use Rattle.lrc_store.specs.Store.{StoreRecord, IsStore, added}
use Rattle.lrc_table.specs.PageCopy.{PageCopy, closed, fresh, without_twin}
use Rattle.lrc_table.specs.Table.{Table, with_each}
use Rattle.lrc_table.proofs.Tables.{closed-none}
use Rattle.lrc_memory.specs.Notes.{named_of}
use Rattle.lrc_memory.specs.View.{NodeMemory, IsKept, node_seen}
use Rattle.lrc_memory.proofs.Discards.{same-seen}
use Rattle.lrc_memory.proofs.Inside.{kept}
use Rattle.lrc_memory.proofs.Noting.{long-named, noting, only-named}
use Rattle.lrc_memory.proofs.Closes.{closed_at, told_ok, told_err, interval-is, closed-is, written-below, kept-dropped, kept-closed, seen-closed}
use Rattle.lrc_memory.proofs.memory.Memory.close.Goals as goal

pub new-interval-requires-clause-counted : goal.new-interval-requires-clause-counted
new-interval-requires-clause-counted c =
    subst (λ n. c.self.inside.me < n)
    (sym (ap length c.copy.ensures ∙ c.requires.stamp ∙ sym (ap (λ (n : NodeMemory). length n.memory.store.last) c.self.view_is))) c.self.invariant.me

pub new-interval-requires-clause-begun : goal.new-interval-requires-clause-begun
new-interval-requires-clause-begun c =
    let next = subst (λ (n : NodeMemory). entry c.args.stamp.now n.me ≡ entry n.memory.store.last n.me + 1) (sym c.self.view_is) c.requires.next in
    omega (arith, ap (λ stamp. entry stamp c.self.inside.me) c.copy.ensures, next)

pub add-requires-clause-stamp : goal.add-requires-clause-stamp
add-requires-clause-stamp c =
    ap (λ (i : IntervalRecord). length i.stamp) c.new-interval.ensures ∙ ap length c.copy.ensures ∙ c.requires.stamp
    ∙ sym (ap (λ (n : NodeMemory). length n.memory.store.last) c.self.view_is)

pub add-requires-clause-next : goal.add-requires-clause-next
add-requires-clause-next c =
    ap index_of c.new-interval.ensures ∙ ap (λ stamp. entry stamp c.self.inside.me) c.copy.ensures
    ∙ subst (λ (n : NodeMemory). entry c.args.stamp.now n.me ≡ entry n.memory.store.last n.me + 1) (sym c.self.view_is) c.requires.next
    ∙ sym (ap (λ (i : IntervalRecord). entry c.self.inside.store.last i.node + 1) c.new-interval.ensures)

pub add-requires-clause-pages : goal.add-requires-clause-pages
add-requires-clause-pages c =
    subst (All (λ page. page < c.self.inside.store.pages)) (sym (ap (λ (i : IntervalRecord). i.pages) c.new-interval.ensures))
    (written-below c.self.inside.table c.self.inside.store.pages c.in_ok-pages.pages c.in_ok-pages.ensures.pages (sym c.self.invariant.pages))

pub drop_twins-requires : goal.drop_twins-requires
drop_twins-requires c = λ k d within written.
    let table : c.close.new.self ≡ with_each c.self.inside.table closed = c.in_ok-pages.ensures.ok in
    closed-none c.self.inside.table k
    (ap (λ (t : Table). (get_or t.copies k (fresh [])).state) (sym table)
    ∙ ap (λ (c : PageCopy). c.state) (get_or_default c.close.new.self.copies k (fresh []) d within) ∙ written)

pub invariant_of-self-then-is_err : goal.invariant_of-self-then-is_err
invariant_of-self-then-is_err c =
    let k = kept c.self.inside in
    let store : c.add.new.self ≡ c.self.inside.store = told_err c.add.result c.add.ensures.err (sym c.is_err.ensures.value ∙ c.if-is_err.true) in
    let table = c.drop_twins.ensures ∙ ap (λ (t : Table). with_each t without_twin) c.in_ok-pages.ensures.ok in
    subst IsKept
    (sym (ap (λ (s : StoreRecord). record k { store = s; table = c.drop_twins.new.self }) store ∙ ap (λ (t : Table). record k { table = t }) table))
    (kept-dropped k c.self.invariant)

pub name_pages-requires : goal.name_pages-requires
name_pages-requires c =
    subst (All (λ page. page < length c.self.inside.notes.items))
    (sym (c.as_slice.ensures ∙ ap (λ (i : IntervalRecord). i.pages) (c.interval.view_is ∙ c.new-interval.ensures)))
    (written-below c.self.inside.table (length c.self.inside.notes.items) c.in_ok-pages.pages c.in_ok-pages.ensures.pages
    (sym c.self.invariant.named ∙ long-named c.self.inside.notes.items))

done : (c : goal.Joined-interval-2)
    → noting (record (kept c.self.inside) { store = c.add.new.self; table = c.close.new.self }) c.name_pages.new.notes.items
    ≡ closed_at (kept c.self.inside) c.args.stamp.now
done c =
    let k = kept c.self.inside in
    only-named (record k { store = c.add.new.self; table = c.close.new.self }) c.self.inside.notes.items c.name_pages.new.notes.items
    c.name_pages.ensures.since c.name_pages.ensures.keepers
    ∙ closed-is k c.args.stamp.now (named_of c.name_pages.new.notes.items) c.as_slice.result.now c.index.result c.new-interval.result c.add.new.self c.close.new.self
    (interval-is k c.args.stamp.now c.copy.result c.in_ok-pages.pages c.new-interval.result c.new-interval.ensures c.copy.ensures c.in_ok-pages.ensures.pages)
    (told_ok c.add.result c.add.ensures.ok (sym c.is_err.ensures.value ∙ c.if-is_err.false))
    c.in_ok-pages.ensures.ok
    (c.as_slice.ensures ∙ ap (λ (i : IntervalRecord). i.pages) c.interval.view_is)
    c.index.ensures.index
    c.name_pages.ensures.named

next : (c : goal.Joined-interval-2)
    → entry c.args.stamp.now c.self.inside.me ≡ entry c.self.inside.store.last c.self.inside.me + 1
next c =
    subst (λ (n : NodeMemory). entry c.args.stamp.now n.me ≡ entry n.memory.store.last n.me + 1) (sym c.self.view_is) c.requires.next

pub invariant_of-self-2 : goal.invariant_of-self-2
invariant_of-self-2 c =
    let k = kept c.self.inside in
    let interval = interval-is k c.args.stamp.now c.copy.result c.in_ok-pages.pages c.new-interval.result c.new-interval.ensures
    c.copy.ensures c.in_ok-pages.ensures.pages in
    let store = told_ok c.add.result c.add.ensures.ok (sym c.is_err.ensures.value ∙ c.if-is_err.false) in
    subst IsKept (sym (done c))
    (kept-closed k c.args.stamp.now c.self.invariant c.size-whole.ensures.whole
    (subst IsStore (store ∙ ap (added c.self.inside.store) interval) c.add.ensures.sound)
    (c.requires.stamp ∙ sym (ap (λ (n : NodeMemory). length n.memory.store.last) c.self.view_is))
    (next c))

pub returns-clause-ok : goal.returns-clause-ok
returns-clause-ok c =
    ap node_seen (done c)
    ∙ seen-closed (kept c.self.inside) c.args.stamp.now _ c.self.view_is c.self.invariant c.size-whole.ensures.whole (next c)

pub returns-clause-same : goal.returns-clause-same
returns-clause-same c =
    let k = kept c.self.inside in
    let table : c.close.new.self ≡ with_each c.self.inside.table closed = c.in_ok-pages.ensures.ok in
    let store = told_ok c.add.result c.add.ensures.ok (sym c.is_err.ensures.value ∙ c.if-is_err.false) in
    same-seen k (noting (record k { store = c.add.new.self; table = c.close.new.self }) c.name_pages.new.notes.items) c.args.self.now c.self.view_is refl
    (ap (λ (t : Table). t.size) table) (ap (λ (t : Table). length t.copies) table ∙ length-map c.self.inside.table.copies closed)
    (ap (λ (s : StoreRecord). length s.last) store ∙ length-set c.self.inside.store.last _ _)

pub returns-then-is_err : goal.returns-then-is_err
returns-then-is_err c =
    let k = kept c.self.inside in
    let store : c.add.new.self ≡ c.self.inside.store = told_err c.add.result c.add.ensures.err (sym c.is_err.ensures.value ∙ c.if-is_err.true) in
    let closing : c.close.new.self ≡ with_each c.self.inside.table closed = c.in_ok-pages.ensures.ok in
    let table : c.drop_twins.new.self ≡ with_each (with_each c.self.inside.table closed) without_twin =
    c.drop_twins.ensures ∙ ap (λ (t : Table). with_each t without_twin) closing in
    record {
      ok = tt;
      same = same-seen k (record k { store = c.add.new.self; table = c.drop_twins.new.self }) c.args.self.now c.self.view_is refl
          (ap (λ (t : Table). t.size) table)
          (ap (λ (t : Table). length t.copies) table ∙ length-map (with_each c.self.inside.table closed).copies without_twin
          ∙ length-map c.self.inside.table.copies closed)
          (ap (λ (s : StoreRecord). length s.last) store);
    }

pub returns-in_err-pages : goal.returns-in_err-pages
returns-in_err-pages c =
    let k = kept c.self.inside in
    let table : c.close.new.self ≡ c.self.inside.table = c.in_err-pages.ensures.err in
    record {
      ok = IfOk-from_err c.from_residual.result _ c.from_residual.ensures.0;
      same = same-seen k (record k { table = c.close.new.self }) c.args.self.now c.self.view_is refl (ap (λ (t : Table). t.size) table)
          (ap (λ (t : Table). length t.copies) table) refl;
    }
