use Rattle.std.proofs.Common.{◌≡◌, ◌+◌, ◌-◌, ◌*◌, ℕ, false, true, [], ◌∷◌, refl, sym, ap, ◌∙◌, arith}
use Rattle.std.specs.Prelude.{slice_index}
use Rattle.std.specs.Ordering.{nat_cmp}
use Rattle.std.specs.BTreeMap.{get}
use Rattle.lrc_exact.specs.Rule.{page_of}
use Rattle.lrc_exact_copies.specs.declared.copy.NodeCopy.{NodeCopy}
use Rattle.lrc_exact_copies.specs.Copies.{look_in, with_fixed_page}
use Rattle.lrc_exact_copies.proofs.Fixing.{on_page}
use Rattle.lrc_exact_judge.specs.Collecting.{with_taken}
use Rattle.lrc_exact_judge.specs.Keepers.{value_at}
use Rattle.lrc_exact_judge.specs.Shape.{shape_of}
use Rattle.lrc_exact_judge.proofs.Kept.{element-at, kept-still}
use Rattle.lrc_exact_judge.proofs.Loops.{kept-have, kept-itself}
use Rattle.lrc_exact_judge.proofs.Taking.{one-fresh, one-stale}
use Rattle.lrc_exact_judge.proofs.memory.Memory.take_page.Goals as goal

pub returns-in_ok-fix_page-clause-kept : goal.returns-in_ok-fix_page-clause-kept
returns-in_ok-fix_page-clause-kept c = λ a l most having values are old.
    let self = c.args.self.now in
    let shape = shape_of self.layout in
    let size = self.layout.page_words in
    let place = c.args.place in
    let page = c.args.page in
    let within = c.requires.place in
    let state = having.have place in
    let node = old.nodes place within in
    let long = old.all_copies in
    let item = c.index.result.now in
    let same : item ≡ node.copy = element-at self.copies.items place item node.copy (omega arith) c.index.ensures node.stands in
    let stale : state.stale page ≡ true =
    node.is.stale_is page ∙ ap (λ (k : NodeCopy). (look_in k.looks page).stale) (sym same) ∙ sym c.is_stale.ensures ∙ c.if-is_stale.true in
    let list = c.as_slice.result.now in
    let now = λ (w : ℕ). slice_index list (w - page * size) in
    let agree : (w : ℕ) → page_of shape w ≡ page → slice_index list (w - page * size) ≡ values w =
    λ w here.
    let on = on_page size w page self.layout.sized here in
    let at : page * size + (w - page * size) ≡ w = omega arith in
    ap (λ xs. slice_index xs (w - page * size)) c.as_slice.ensures.value
    ∙ c.in_ok-values.ensures.values a l most having old (w - page * size) (omega arith)
    ∙ ap (λ v. value_at (get nat_cmp c.args.keepers.now page) having.have v) at
    ∙ ap (λ p. value_at (get nat_cmp c.args.keepers.now p) having.have w) (sym here)
    ∙ are w in
    kept-have having place (with_fixed_page shape page now state) (with_taken shape values (page ∷ []) state)
    (one-stale shape values state page now stale agree)
    (kept-still old a l place c.index_mut.result.now c.fix_page.new.self (with_fixed_page shape page now state) (omega arith) (omega arith) within
    c.index_mut.ensures.value refl refl (λ h. c.in_ok-fix_page.ensures shape place a l state refl h))

pub returns-else-is_stale-clause-kept : goal.returns-else-is_stale-clause-kept
returns-else-is_stale-clause-kept c = λ a l most having values are old.
    let self = c.args.self.now in
    let shape = shape_of self.layout in
    let place = c.args.place in
    let page = c.args.page in
    let within = c.requires.place in
    let state = having.have place in
    let node = old.nodes place within in
    let long = old.all_copies in
    let item = c.index.result.now in
    let same : item ≡ node.copy = element-at self.copies.items place item node.copy (omega arith) c.index.ensures node.stands in
    let fresh : state.stale page ≡ false =
    node.is.stale_is page ∙ ap (λ (k : NodeCopy). (look_in k.looks page).stale) (sym same) ∙ sym c.is_stale.ensures ∙ c.if-is_stale.false in
    kept-have having place state (with_taken shape values (page ∷ []) state) (one-fresh shape values state page fresh) (kept-itself having place old)
