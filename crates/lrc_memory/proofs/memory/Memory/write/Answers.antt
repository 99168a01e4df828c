use Rattle.std.proofs.Common.{◌≡◌, ◌<◌, ◌∙◌, ap, length, subst, sym, arith}
use Rattle.lrc_page.specs.Place.{page_of}
use Rattle.lrc_memory.specs.Notes.{named_of}
use Rattle.lrc_memory.specs.View.{IsKept}
use Rattle.lrc_memory.proofs.Inside.{kept}
use Rattle.lrc_memory.proofs.Copies.{word-seen}
use Rattle.lrc_memory.proofs.Noting.{long-named, noticed}
use Rattle.lrc_memory.proofs.Settling.{same-parts}
use Rattle.lrc_memory.proofs.Writes.{mid-within, mid-quiet, kept-write, seen-write, readable-write}
use Rattle.lrc_memory.proofs.memory.Memory.write.Goals as goal

pub settle_page-requires-clause-page : goal.settle_page-requires-clause-page
settle_page-requires-clause-page c =
    omega (
      arith,
      c.page_of-page.ensures.page,
      ap (page_of c.args.word) c.size.ensures.size,
      word-seen (kept c.self.inside) _ _ c.self.view_is c.requires.on_a_page,
    )

pub settle_page-requires-clause-noticed : goal.settle_page-requires-clause-noticed
settle_page-requires-clause-noticed c =
    noticed (kept c.self.inside) (named_of c.deref.result.now) c.page_of-page.result c.self.invariant (ap named_of c.deref.ensures.value)

pub settle_page-requires-clause-noted : goal.settle_page-requires-clause-noted
settle_page-requires-clause-noted c =
    omega (
      arith,
      c.self.invariant.named,
      long-named c.self.inside.notes.items,
      ap length c.deref.ensures.value,
      c.page_of-page.ensures.page,
      ap (page_of c.args.word) c.size.ensures.size,
      word-seen (kept c.self.inside) _ _ c.self.view_is c.requires.on_a_page,
    )

pub invariant_of-self : goal.invariant_of-self
invariant_of-self c =
    let k = kept c.self.inside in
    subst IsKept (sym (same-parts k _ _ c.in_err-settle_page.ensures.err_table c.in_err-settle_page.ensures.err_store)) c.self.invariant

page_is : (c : goal.After-write-arg-1) → c.page_of-page.result ≡ page_of c.args.word c.self.inside.table.size
page_is c = c.page_of-page.ensures.page ∙ ap (page_of c.args.word) c.size.ensures.size

within : (c : goal.After-write-arg-1) → c.page_of-page.result < length c.self.inside.table.copies
within c = omega (arith, page_is c, word-seen (kept c.self.inside) _ _ c.self.view_is c.requires.on_a_page)

pub write-requires-clause-on_a_page : goal.write-requires-clause-on_a_page
write-requires-clause-on_a_page c =
    mid-within (kept c.self.inside) c.args.word c.args.value _ _ _ c.settle_page.new.table c.settle_page.new.table (page_is c) (within c)
    (ap named_of c.deref.ensures.value) c.in_ok-settle_page.ensures.table c.in_ok-settle_page.ensures.store

pub write-requires-clause-settled : goal.write-requires-clause-settled
write-requires-clause-settled c =
    mid-quiet (kept c.self.inside) c.args.word c.args.value _ _ _ c.settle_page.new.table c.settle_page.new.table (page_is c) (within c)
    (ap named_of c.deref.ensures.value) c.in_ok-settle_page.ensures.table c.in_ok-settle_page.ensures.store

pub invariant_of-self-2 : goal.invariant_of-self-2
invariant_of-self-2 c =
    let k = kept c.self.inside in
    let page_is : c.page_of-page.result ≡ page_of c.args.word k.table.size = c.page_of-page.ensures.page ∙ ap (page_of c.args.word) c.size.ensures.size in
    kept-write k c.args.word c.args.value _ _ _ c.settle_page.new.table c.write.new.self page_is
    (omega (arith, page_is, word-seen k _ _ c.self.view_is c.requires.on_a_page))
    (ap named_of c.deref.ensures.value) c.in_ok-settle_page.ensures.table c.in_ok-settle_page.ensures.store
    c.write.result c.self.invariant c.settle_page.ensures.sized c.write.ensures.ok c.write.ensures.err

pub returns-clause-done : goal.returns-clause-done
returns-clause-done c =
    let k = kept c.self.inside in
    let page_is : c.page_of-page.result ≡ page_of c.args.word k.table.size = c.page_of-page.ensures.page ∙ ap (page_of c.args.word) c.size.ensures.size in
    readable-write k c.args.word c.args.value _ _ _ c.settle_page.new.table c.write.new.self page_is
    (omega (arith, page_is, word-seen k _ _ c.self.view_is c.requires.on_a_page))
    (ap named_of c.deref.ensures.value) c.in_ok-settle_page.ensures.table c.in_ok-settle_page.ensures.store
    c.write.result _ c.self.view_is c.write.ensures.done

pub returns-clause-ok : goal.returns-clause-ok
returns-clause-ok c =
    let k = kept c.self.inside in
    let page_is : c.page_of-page.result ≡ page_of c.args.word k.table.size = c.page_of-page.ensures.page ∙ ap (page_of c.args.word) c.size.ensures.size in
    seen-write k c.args.word c.args.value _ _ _ c.settle_page.new.table c.write.new.self page_is
    (omega (arith, page_is, word-seen k _ _ c.self.view_is c.requires.on_a_page))
    (ap named_of c.deref.ensures.value) c.in_ok-settle_page.ensures.table c.in_ok-settle_page.ensures.store
    c.write.result _ c.self.view_is c.write.ensures.ok
