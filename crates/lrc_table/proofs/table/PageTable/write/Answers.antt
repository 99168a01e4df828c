use Rattle.std.proofs.Common.{◌≡◌, ◌<◌, ◌∙◌, ap, sym, inl, inr, get_or, length, arith}
use Rattle.lrc_page.specs.Place.{page_of, offset_of}
use Rattle.lrc_table.specs.PageCopy.{PageCopy, is_written, after_write}
use Rattle.lrc_table.specs.Table.{Table, copy_at, with_copy}
use Rattle.lrc_table.proofs.Tables.{IsBegun, size-begun, length-begun, written_begun, sound-changed, whole-with_value}
use Rattle.lrc_table.proofs.table.PageTable.write.Goals as goal
use Rattle.lrc_table.proofs.table.PageTable.write.Goals.{in-Valid+in_ok-open-in-Valid, in-Written}

begun : (c : goal.After-self-1) → IsBegun c.args.self.now c.match-state.self c.page_of-page.result
begun c =
    elim c.match-state.branch [
      | in-Valid+in_ok-open-in-Valid w ↦
          inr (w.self-is ∙ w.in_ok-open-in-Valid.ensures.ok, sym c.state.ensures ∙ w.in-Valid.is)
      | in-Written w ↦ inl (w.self-is, sym c.state.ensures ∙ w.in-Written.is)
    ]

page_is : (c : goal.After-self-1) → c.from.result ≡ page_of c.args.word c.args.self.now.size
page_is c = c.from.ensures ∙ c.page_of-page.ensures.page ∙ ap (λ (t : Table). page_of c.args.word t.size) c.self.view_is

inside_old : (c : goal.After-self-1) → c.from.result < length c.args.self.now.copies
inside_old c = omega (arith, page_is c, c.requires.on_a_page)

inside : (c : goal.After-self-1) → c.from.result < length c.self-2.inside.slots.items
inside c =
    omega (
      arith,
      inside_old c,
      ap (λ (t : Table). length t.copies) c.self-2.view_is,
      length-begun c.args.self.now c.match-state.self c.page_of-page.result (begun c),
    )

pub invariant_of-self : goal.invariant_of-self
invariant_of-self c =
    let table : Table = record { size = c.self-2.inside.size; copies = c.self-2.inside.slots.items } in
    sound-changed table c.self-2.inside.written c.from.result c.index_mut.result.now c.set.new.self c.self-2.invariant (inside c)
    c.index_mut.ensures.value
    (λ whole. rw c.set.ensures (whole-with_value table.size c.index_mut.result.now c.offset_of-offset.result c.args.value whole))
    (ap (λ (copy : PageCopy). is_written copy.state) c.set.ensures)

pub returns-clause-ok : goal.returns-clause-ok
returns-clause-ok c =
    let old = c.args.self.now in
    let mid = c.match-state.self in
    let was = c.index_mut.result.now in
    let offset : c.offset_of-offset.result ≡ offset_of c.args.word old.size =
    c.offset_of-offset.ensures.offset
    ∙ ap (λ (t : Table). offset_of c.args.word t.size) c.self-2.view_is
    ∙ ap (offset_of c.args.word) (size-begun old mid c.page_of-page.result (begun c)) in
    ap (λ t. with_copy t c.from.result c.set.new.self) c.self-2.view_is
    ∙ written_begun old mid c.from.result c.offset_of-offset.result c.args.value was c.set.new.self (inside_old c)
    (rw c.from.ensures (begun c))
    (c.index_mut.ensures.value ∙ ap (λ (t : Table). get_or t.copies c.from.result was) c.self-2.view_is)
    c.set.ensures
    ∙ ap (λ page. with_copy old page (after_write (copy_at old page) c.offset_of-offset.result c.args.value)) (page_is c)
    ∙ ap (λ place. with_copy old (page_of c.args.word old.size) (after_write (copy_at old (page_of c.args.word old.size)) place c.args.value)) offset
