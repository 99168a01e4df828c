use Rattle.std.proofs.Common.{◌≡◌, ◌∙◌, ap, length, refl, sym, subst, arith}
use Rattle.std.proofs.lemmas.Result.{IfOk-from_err}
use Rattle.lrc_store.specs.Store.{StoreRecord}
use Rattle.lrc_table.specs.Table.{Table}
use Rattle.lrc_memory.specs.Notes.{named_of}
use Rattle.lrc_memory.specs.View.{Kept, IsKept, SameMemory, node_seen}
use Rattle.lrc_memory.proofs.Discards.{same-seen}
use Rattle.lrc_memory.proofs.Inside.{kept}
use Rattle.lrc_memory.proofs.Copies.{within-seen}
use Rattle.lrc_memory.proofs.Learns.{same-same}
use Rattle.lrc_memory.proofs.Settling.{after-settle, kept-settled, seen-settled}
use Rattle.lrc_memory.proofs.Noting.{long-named, noticed}
use Rattle.lrc_memory.proofs.Attaches.{known-settled, part_key, ok_then, on_ok}
use Rattle.lrc_protocol.specs.Pages.{changes_or_none}
use Rattle.lrc_memory.proofs.memory.Memory.changes_of.Goals as goal

pub settle_page-requires-clause-page : goal.settle_page-requires-clause-page
settle_page-requires-clause-page c = within-seen (kept c.self.inside) _ _ c.self.view_is c.requires

pub settle_page-requires-clause-noticed : goal.settle_page-requires-clause-noticed
settle_page-requires-clause-noticed c =
    noticed (kept c.self.inside) (named_of c.deref.result.now) c.args.page c.self.invariant (ap named_of c.deref.ensures.value)

pub settle_page-requires-clause-noted : goal.settle_page-requires-clause-noted
settle_page-requires-clause-noted c =
    omega (arith, ap length c.deref.ensures.value, c.self.invariant.named, long-named c.self.inside.notes.items, within-seen (kept c.self.inside) _ _ c.self.view_is c.requires)

pub invariant_of-self-2 : goal.invariant_of-self-2
invariant_of-self-2 c =
    let k = kept c.self.inside in
    subst IsKept
    (sym (after-settle k c.args.page (named_of c.deref.result.now) c.settle_page.new.store c.settle_page.new.table (ap named_of c.deref.ensures.value)
    c.in_ok-settle_page.ensures.table c.in_ok-settle_page.ensures.store))
    (kept-settled k c.args.page (within-seen k _ _ c.self.view_is c.requires) c.self.invariant c.settle_page.ensures.sized)

pub returns-clause-changes : goal.returns-clause-changes
returns-clause-changes c =
    let k = kept c.self.inside in
    let parts = after-settle k c.args.page (named_of c.deref.result.now) c.settle_page.new.store c.settle_page.new.table (ap named_of c.deref.ensures.value)
    c.in_ok-settle_page.ensures.table c.in_ok-settle_page.ensures.store in
    let same : changes_or_none c.settle_page.new.store (part_key k.me c.args.page c.args.index)
    ≡ changes_or_none c.args.self.now.memory.store (part_key c.args.self.now.me c.args.page c.args.index) =
    ap (λ (k : Kept). changes_or_none k.store (part_key k.me c.args.page c.args.index)) parts
    ∙ known-settled k _ c.args.page c.args.index c.self.view_is (within-seen k _ _ c.self.view_is c.requires) in
    ok_then c.changes_or_none.result c.changes_or_none.ensures (λ changes is. is ∙ same)

pub returns-clause-ok : goal.returns-clause-ok
returns-clause-ok c =
    let k = kept c.self.inside in
    let parts = after-settle k c.args.page (named_of c.deref.result.now) c.settle_page.new.store c.settle_page.new.table (ap named_of c.deref.ensures.value)
    c.in_ok-settle_page.ensures.table c.in_ok-settle_page.ensures.store in
    on_ok c.changes_or_none.result (ap node_seen parts ∙ seen-settled k c.args.page (within-seen k _ _ c.self.view_is c.requires) ∙ c.self.view_is)

pub returns-clause-same : goal.returns-clause-same
returns-clause-same c =
    let k = kept c.self.inside in
    let parts = after-settle k c.args.page (named_of c.deref.result.now) c.settle_page.new.store c.settle_page.new.table (ap named_of c.deref.ensures.value)
    c.in_ok-settle_page.ensures.table c.in_ok-settle_page.ensures.store in
    subst (SameMemory c.args.self.now)
    (sym (ap node_seen parts ∙ seen-settled k c.args.page (within-seen k _ _ c.self.view_is c.requires) ∙ c.self.view_is)) (same-same c.args.self.now)

pub invariant_of-self : goal.invariant_of-self
invariant_of-self c =
    let k = kept c.self.inside in
    let failed = c.in_err-settle_page.ensures in
    subst IsKept
    (sym (ap (λ (s : StoreRecord). record k { store = s; table = c.settle_page.new.table }) failed.err_store
    ∙ ap (λ (t : Table). record k { table = t }) failed.err_table))
    c.self.invariant

pub returns-in_err-settle_page : goal.returns-in_err-settle_page
returns-in_err-settle_page c =
    let k = kept c.self.inside in
    let failed = c.in_err-settle_page.ensures in
    record {
      changes = IfOk-from_err c.from_residual.result _ c.from_residual.ensures.0;
      ok = IfOk-from_err c.from_residual.result _ c.from_residual.ensures.0;
      same = same-seen k (record k { store = c.settle_page.new.store; table = c.settle_page.new.table }) c.args.self.now c.self.view_is refl
          (ap (λ (t : Table). t.size) failed.err_table) (ap (λ (t : Table). length t.copies) failed.err_table)
          (ap (λ (s : StoreRecord). length s.last) failed.err_store);
    }
