use Rattle.std.proofs.Common.{◌≡◌, ◌<◌, ◌∙◌, ap, map, length, get_or, arith}
use Rattle.lrc_page.specs.Pages.{IsRising}
use Rattle.lrc_table.specs.Table.{Table, with_each}
use Rattle.lrc_table.specs.PageCopy.{closed}
use Rattle.lrc_table.proofs.Tables.{same_table, closed_step, written_within, rising-listed, closed_is, sound-closed}
use Rattle.lrc_table.proofs.table.PageTable.close.Goals as goal

pub index_mut-requires : goal.index_mut-requires
index_mut-requires c =
    let table : Table = record { size = c.self.inside.size; copies = c.self.inside.slots.items } in
    let pages : c.as_slice-page-items.result.now ≡ c.self.inside.written = c.as_slice-page-items.ensures ∙ c.in_ok-pages.ensures in
    let at : c.from.result ≡ get_or c.self.inside.written c.loop-page.page-index 0 =
    c.from.ensures ∙ ap (λ l. get_or l c.loop-page.page-index 0) pages in
    let within : c.from.result < length table.copies =
    written_within table c.self.inside.written c.loop-page.page-index c.from.result c.self.invariant
    (omega (arith, ap length pages, c.loop-page-test.true)) at in
    omega (arith, within, c.loop-page.invariant.so_far.long)

pub loop-page-preserved : goal.loop-page-preserved
loop-page-preserved c =
    let table : Table = record { size = c.self.inside.size; copies = c.self.inside.slots.items } in
    let items = c.as_slice-page-items.result.now in
    let i = c.loop-page.page-index in
    let pages : items ≡ c.self.inside.written = c.as_slice-page-items.ensures ∙ c.in_ok-pages.ensures in
    let rises : IsRising items = rw pages (rising-listed table c.self.inside.written c.self.invariant) in
    let at : c.from.result ≡ get_or c.self.inside.written i 0 = c.from.ensures ∙ ap (λ l. get_or l i 0) pages in
    let within : c.from.result < length table.copies =
    written_within table c.self.inside.written i c.from.result c.self.invariant
    (omega (arith, ap length pages, c.loop-page-test.true)) at in record {
      size = c.loop-page.invariant.size;
      so_far = closed_step items i c.from.result table.copies c.loop-page.self-inside.slots.items c.index_mut.result.now c.close.new.self
          rises c.loop-page-test.true c.from.ensures within c.loop-page.invariant.so_far c.index_mut.ensures.value c.close.ensures;
    }

pub invariant_of-self : goal.invariant_of-self
invariant_of-self c =
    let table : Table = record { size = c.self.inside.size; copies = c.self.inside.slots.items } in
    let pages : c.as_slice-page-items.result.now ≡ c.self.inside.written = c.as_slice-page-items.ensures ∙ c.in_ok-pages.ensures in
    rw c.loop-page.invariant.size
    (sound-closed table c.self.inside.written c.clear.new.self c.loop-page.self-inside.slots.items c.self.invariant
    (closed_is table c.self.inside.written c.loop-page.page-index c.loop-page.self-inside.slots.items c.self.invariant
    (omega (arith, ap length pages, c.loop-page-test.false)) (omega (arith, ap length pages, c.loop-page.auto.page-index-end))
    (rw (← pages) c.loop-page.invariant.so_far))
    c.clear.ensures)

pub returns-clause-ok : goal.returns-clause-ok
returns-clause-ok c =
    let table : Table = record { size = c.self.inside.size; copies = c.self.inside.slots.items } in
    let pages : c.as_slice-page-items.result.now ≡ c.self.inside.written = c.as_slice-page-items.ensures ∙ c.in_ok-pages.ensures in
    let copies : c.loop-page.self-inside.slots.items ≡ map closed table.copies =
    closed_is table c.self.inside.written c.loop-page.page-index c.loop-page.self-inside.slots.items c.self.invariant
    (omega (arith, ap length pages, c.loop-page-test.false)) (omega (arith, ap length pages, c.loop-page.auto.page-index-end))
    (rw (← pages) c.loop-page.invariant.so_far) in
    same_table c.loop-page.self-inside.size table.size c.loop-page.self-inside.slots.items (map closed table.copies) c.loop-page.invariant.size copies
    ∙ ap (λ t. with_each t closed) c.self.view_is
