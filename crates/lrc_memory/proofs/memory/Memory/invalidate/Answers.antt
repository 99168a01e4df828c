use Rattle.std.proofs.Common.{◌≡◌, ◌∙◌, ◌&&◌, ap, length, set, refl, sym, subst, arith}
use Rattle.std.proofs.lemmas.Result.{IfOk-from_err}
use Rattle.lrc_store.specs.Store.{StoreRecord}
use Rattle.lrc_table.specs.Table.{Table}
use Rattle.lrc_memory.specs.Notes.{named_of}
use Rattle.lrc_memory.specs.View.{NodeMemory, IsKept, node_seen}
use Rattle.lrc_memory.proofs.Discards.{same-seen}
use Rattle.lrc_memory.proofs.Inside.{kept}
use Rattle.lrc_memory.proofs.InStep.{was-kept}
use Rattle.lrc_memory.proofs.Copies.{within-seen}
use Rattle.lrc_memory.proofs.Noting.{long-named, long-since, noticed, noting, only-since}
use Rattle.lrc_memory.proofs.Learns.{asked-within, asked-closed, asked-quiet, kept-done, seen-done, stays-seen}
use Rattle.lrc_memory.proofs.memory.Memory.invalidate.Goals as goal
use Rattle.lrc_memory.proofs.memory.Memory.invalidate.Goals.{After-index_mut}

pub state-requires : goal.state-requires
state-requires c = within-seen (kept c.self.inside) _ _ c.self.view_is c.requires.in_range

pub settle_page-requires-clause-page : goal.settle_page-requires-clause-page
settle_page-requires-clause-page c = within-seen (kept c.self.inside) _ _ c.self.view_is c.requires.in_range

pub settle_page-requires-clause-noticed : goal.settle_page-requires-clause-noticed
settle_page-requires-clause-noticed c =
    noticed (kept c.self.inside) (named_of c.deref.result.now) c.args.page c.self.invariant (ap named_of c.deref.ensures.value)

pub settle_page-requires-clause-noted : goal.settle_page-requires-clause-noted
settle_page-requires-clause-noted c =
    omega (arith, ap length c.deref.ensures.value, c.self.invariant.named, long-named c.self.inside.notes.items, within-seen (kept c.self.inside) _ _ c.self.view_is c.requires.in_range)

pub invalidate-requires-clause-in_range : goal.invalidate-requires-clause-in_range
invalidate-requires-clause-in_range c =
    asked-within (kept c.self.inside) c.args.page c.settle_page.new.table (within-seen (kept c.self.inside) _ _ c.self.view_is c.requires.in_range)
    (sym c.state.ensures ∙ c.in-Valid.is) c.in_ok-settle_page.ensures.table

pub invalidate-requires-clause-closed : goal.invalidate-requires-clause-closed
invalidate-requires-clause-closed c =
    asked-closed (kept c.self.inside) c.args.page c.settle_page.new.table (within-seen (kept c.self.inside) _ _ c.self.view_is c.requires.in_range)
    (sym c.state.ensures ∙ c.in-Valid.is) c.in_ok-settle_page.ensures.table

pub invalidate-requires-clause-settled : goal.invalidate-requires-clause-settled
invalidate-requires-clause-settled c =
    asked-quiet (kept c.self.inside) c.args.page c.settle_page.new.table (within-seen (kept c.self.inside) _ _ c.self.view_is c.requires.in_range)
    (sym c.state.ensures ∙ c.in-Valid.is) c.in_ok-settle_page.ensures.table

pub index_mut-requires : goal.index_mut-requires
index_mut-requires c =
    omega (arith, c.from.ensures, c.self.invariant.since, long-since c.self.inside.notes.items, within-seen (kept c.self.inside) _ _ c.self.view_is c.requires.in_range)

-- what is kept, once the time is noted
noted : (c : After-index_mut)
    → noting (record (kept c.self.inside) {
      store = c.settle_page.new.store;
      table = c.invalidate.new.self;
      in_step = c.self.inside.in_step && c.args.in_step;
    }) (set c.self.inside.notes.items c.from.result (record c.index_mut.result.now { since = c.copy.result }))
    ≡ record (kept c.self.inside) {
      store = c.settle_page.new.store;
      table = c.invalidate.new.self;
      since = set (kept c.self.inside).since c.from.result c.copy.result;
      in_step = c.self.inside.in_step && c.args.in_step;
    }
noted c =
    only-since c.self.inside.notes.items c.from.result c.index_mut.result.now c.index_mut.ensures.value
    (record (kept c.self.inside) {
      store = c.settle_page.new.store;
      table = c.invalidate.new.self;
      in_step = c.self.inside.in_step && c.args.in_step;
    }) c.copy.result

pub invariant_of-self-in-Valid : goal.invariant_of-self-in-Valid
invariant_of-self-in-Valid c =
    let k = kept c.self.inside in
    subst IsKept (sym (noted (goal.at.invariant_of-self-in-Valid c).After-index_mut))
    (subst (λ p. IsKept (record k {
      store = c.settle_page.new.store;
      table = c.invalidate.new.self;
      since =
          set k.since p c.copy.result;
      in_step = c.self.inside.in_step && c.args.in_step;
    })) (sym c.from.ensures)
    (kept-done k c.args.page c.args.before.now c.copy.result (named_of c.deref.result.now)
    (c.self.inside.in_step && c.args.in_step) c.settle_page.new.store c.settle_page.new.table c.invalidate.new.self
    (within-seen k _ _ c.self.view_is c.requires.in_range) (sym c.state.ensures ∙ c.in-Valid.is) (ap named_of c.deref.ensures.value)
    c.in_ok-settle_page.ensures.table c.in_ok-settle_page.ensures.store c.invalidate.ensures c.copy.ensures
    c.self.invariant c.settle_page.ensures.sized
    (c.requires.before ∙ sym (ap (λ (n : NodeMemory). length n.memory.store.last) c.self.view_is))
    c.args.in_step refl (λ step. was-kept k _ c.args.before.now c.self.view_is (c.requires.in_step step))))

pub returns-in_ok-settle_page-clause-ok : goal.returns-in_ok-settle_page-clause-ok
returns-in_ok-settle_page-clause-ok c =
    let k = kept c.self.inside in
    ap node_seen (noted (goal.at.returns-in_ok-settle_page-clause-ok c).After-index_mut)
    ∙ ap (λ p. node_seen (record k {
      store = c.settle_page.new.store;
      table = c.invalidate.new.self;
      since =
          set k.since p c.copy.result;
      in_step = c.self.inside.in_step && c.args.in_step;
    })) c.from.ensures
    ∙ seen-done k c.args.page c.args.before.now c.copy.result (named_of c.deref.result.now)
    (c.self.inside.in_step && c.args.in_step) c.settle_page.new.store c.settle_page.new.table c.invalidate.new.self
    (within-seen k _ _ c.self.view_is c.requires.in_range) (sym c.state.ensures ∙ c.in-Valid.is) (ap named_of c.deref.ensures.value)
    c.in_ok-settle_page.ensures.table c.in_ok-settle_page.ensures.store c.invalidate.ensures c.copy.ensures
    c.self.invariant c.settle_page.ensures.sized _ c.self.view_is

pub returns-in_default-clause-ok : goal.returns-in_default-clause-ok
returns-in_default-clause-ok c =
    stays-seen (kept c.self.inside) _ c.args.page c.args.before.now c.self.view_is
    (within-seen (kept c.self.inside) _ _ c.self.view_is c.requires.in_range)
    (λ valid. c.in_default.not-Valid (c.state.ensures ∙ valid))

pub invariant_of-self : goal.invariant_of-self
invariant_of-self c =
    let k = kept c.self.inside in
    let failed = c.in_err-settle_page.ensures in
    subst IsKept
    (sym (ap (λ (s : StoreRecord). record k { store = s; table = c.settle_page.new.table }) failed.err_store
    ∙ ap (λ (t : Table). record k { table = t }) failed.err_table))
    c.self.invariant

pub returns-in_err-settle_page : goal.returns-in_err-settle_page
returns-in_err-settle_page c =
    let k = kept c.self.inside in
    let failed = c.in_err-settle_page.ensures in
    record {
      ok = IfOk-from_err c.from_residual.result _ c.from_residual.ensures.0;
      same = same-seen k (record k { store = c.settle_page.new.store; table = c.settle_page.new.table }) c.args.self.now c.self.view_is refl
          (ap (λ (t : Table). t.size) failed.err_table) (ap (λ (t : Table). length t.copies) failed.err_table)
          (ap (λ (s : StoreRecord). length s.last) failed.err_store);
    }
