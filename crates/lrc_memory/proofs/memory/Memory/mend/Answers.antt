use Rattle.std.proofs.Common.{◌≡◌, ◌<◌, ◌∙◌, List, true, ap, length, refl, sym, subst, arith, length-set}
use Rattle.std.specs.Prelude.{All}
use Rattle.lrc_store.specs.declared.key.Key.{Key}
use Rattle.lrc_table.specs.Table.{Table}
use Rattle.lrc_protocol.specs.Pages as machine
use Rattle.lrc_protocol.specs.Pages.{first_values}
use Rattle.lrc_need.specs.Seen.{seen_base}
use Rattle.lrc_memory.specs.Turns.{is_mendable}
use Rattle.lrc_memory.specs.View.{NodeMemory, IsKept, SameMemory, node_seen, with_known}
use Rattle.lrc_memory.proofs.Inside.{kept}
use Rattle.lrc_memory.proofs.Copies.{within-seen}
use Rattle.lrc_memory.proofs.Mending.{fits-seen, kept-mended, seen-mended, table-mended}
use Rattle.lrc_memory.proofs.Quiet.{with_table}
use Rattle.lrc_memory.proofs.memory.Memory.mend.Goals as goal

pub install_base-requires-clause-in_range : goal.install_base-requires-clause-in_range
install_base-requires-clause-in_range c =
    omega (arith, c.page-page.ensures.page, within-seen (kept c.self.inside) _ _ c.self.view_is c.requires.in_range)

pub install_base-requires-clause-fit : goal.install_base-requires-clause-fit
install_base-requires-clause-fit c =
    let k = kept c.self.inside in
    let page : c.page-page.result ≡ c.args.need.now.page = c.page-page.ensures.page in
    let fit : is_mendable c.args.self.now.size (machine.copy_at c.args.self.now.memory c.page-page.result) (seen_base c.base.result.now) ≡ true =
    ap (λ p. is_mendable c.args.self.now.size (machine.copy_at c.args.self.now.memory p) (seen_base c.base.result.now)) page
    ∙ ap (is_mendable c.args.self.now.size (machine.copy_at c.args.self.now.memory c.args.need.now.page)) c.base.ensures
    ∙ c.requires.fit in
    fits-seen k _ _ _ c.self.view_is (omega (arith, page, within-seen k _ _ c.self.view_is c.requires.in_range)) fit

pub invariant_of-self : goal.invariant_of-self
invariant_of-self c =
    let k = kept c.self.inside in
    let page : c.page-page.result ≡ c.args.need.now.page = c.page-page.ensures.page in
    let base = seen_base c.base.result.now in
    let within : c.page-page.result < length c.self.inside.table.copies =
    omega (arith, page, within-seen k _ _ c.self.view_is c.requires.in_range) in
    let fit : is_mendable c.args.self.now.size (machine.copy_at c.args.self.now.memory c.page-page.result) base ≡ true =
    ap (λ p. is_mendable c.args.self.now.size (machine.copy_at c.args.self.now.memory p) base) page
    ∙ ap (is_mendable c.args.self.now.size (machine.copy_at c.args.self.now.memory c.args.need.now.page)) c.base.ensures
    ∙ c.requires.fit in
    let table = table-mended k c.page-page.result base c.missing.result.now c.install_base.new.table c.patch_all.new.table c.repair.new.self within
    c.install_base.ensures.copy c.patch_all.ensures c.repair.ensures in
    subst (λ (t : Table). IsKept (with_table k t)) (sym table)
    (kept-mended k c.page-page.result base c.missing.result.now within c.self.invariant c.size-whole.ensures.whole
    (fits-seen k _ _ _ c.self.view_is within fit))

pub returns-clause-mended : goal.returns-clause-mended
returns-clause-mended c =
    let k = kept c.self.inside in
    let page : c.page-page.result ≡ c.args.need.now.page = c.page-page.ensures.page in
    let base = seen_base c.base.result.now in
    let missing = c.missing.result.now in
    let within : c.page-page.result < length c.self.inside.table.copies =
    omega (arith, page, within-seen k _ _ c.self.view_is c.requires.in_range) in
    let fit : is_mendable c.args.self.now.size (machine.copy_at c.args.self.now.memory c.page-page.result) base ≡ true =
    ap (λ p. is_mendable c.args.self.now.size (machine.copy_at c.args.self.now.memory p) base) page
    ∙ ap (is_mendable c.args.self.now.size (machine.copy_at c.args.self.now.memory c.args.need.now.page)) c.base.ensures
    ∙ c.requires.fit in
    let table = table-mended k c.page-page.result base missing c.install_base.new.table c.patch_all.new.table c.repair.new.self within
    c.install_base.ensures.copy c.patch_all.ensures c.repair.ensures in
    let of_page : All (λ (key : Key). key.page ≡ c.page-page.result) missing =
    rw (page, c.missing.ensures) c.requires.of_page in
    ap (λ (t : Table). node_seen (with_table k t)) table
    ∙ seen-mended k c.page-page.result base missing within c.size-whole.ensures.whole (fits-seen k _ _ _ c.self.view_is within fit) of_page
    ∙ ap (λ (n : NodeMemory). with_known n (machine.with_copy n.memory c.page-page.result
    (machine.valid (machine.all_applied n.memory.store (first_values (machine.copy_at n.memory c.page-page.result) base) missing)))) c.self.view_is
    ∙ ap (λ p. with_known c.args.self.now (machine.with_copy c.args.self.now.memory p
    (machine.valid (machine.all_applied c.args.self.now.memory.store (first_values (machine.copy_at c.args.self.now.memory p) base) missing)))) page
    ∙ ap (λ b. with_known c.args.self.now (machine.with_copy c.args.self.now.memory c.args.need.now.page
    (machine.valid (machine.all_applied c.args.self.now.memory.store
    (first_values (machine.copy_at c.args.self.now.memory c.args.need.now.page) b) missing)))) c.base.ensures
    ∙ ap (λ (keys : List Key). with_known c.args.self.now (machine.with_copy c.args.self.now.memory c.args.need.now.page
    (machine.valid (machine.all_applied c.args.self.now.memory.store
    (first_values (machine.copy_at c.args.self.now.memory c.args.need.now.page) c.args.need.now.base) keys)))) c.missing.ensures

pub returns-clause-same : goal.returns-clause-same
returns-clause-same c =
    subst (SameMemory c.args.self.now) (sym (returns-clause-mended c))
    (record { me = refl; size = refl; pages = length-set c.args.self.now.memory.copies _ _; nodes = refl })
