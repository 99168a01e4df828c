use Rattle.std.proofs.Common.{◌<◌, ◌∙◌, ap, sym, subst}
use Rattle.std.specs.Prelude.{All}
use Rattle.lrc_page.specs.Page.{words_of}
use Rattle.lrc_store.specs.Store.{StoreRecord, notice_at}
use Rattle.lrc_memory.specs.View.{NodeMemory, IsKept, node_seen}
use Rattle.lrc_memory.proofs.Inside.{kept}
use Rattle.lrc_memory.proofs.Attaches.{bare-notice, kept-attached, seen-attached}
use Rattle.lrc_memory.proofs.memory.Memory.keep.Goals as goal

pub attach-requires : goal.attach-requires
attach-requires c =
    bare-notice (kept c.self.inside) c.args.key
    (ap (λ (n : NodeMemory). notice_at n.memory.store c.args.key) c.self.view_is ∙ c.requires.awaited)

pub invariant_of-self : goal.invariant_of-self
invariant_of-self c =
    let k = kept c.self.inside in
    subst (λ (s : StoreRecord). IsKept (record k { store = s })) (sym c.attach.ensures)
    (kept-attached k c.args.key (ap (λ (n : NodeMemory). notice_at n.memory.store c.args.key) c.self.view_is ∙ c.requires.awaited) c.args.changes
    c.self.invariant
    (subst (λ (n : NodeMemory). All (λ c. c.offset < words_of n.size) c.args.changes) (sym c.self.view_is) c.requires.sized))

pub returns-clause-kept : goal.returns-clause-kept
returns-clause-kept c =
    let k = kept c.self.inside in
    ap (λ (s : StoreRecord). node_seen (record k { store = s })) c.attach.ensures
    ∙ seen-attached k c.args.key (ap (λ (n : NodeMemory). notice_at n.memory.store c.args.key) c.self.view_is
    ∙ c.requires.awaited) c.args.changes _ c.self.view_is
