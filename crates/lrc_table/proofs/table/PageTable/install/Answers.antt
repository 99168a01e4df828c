use Rattle.std.proofs.Common.{◌≡◌, ◌<◌, ◌∙◌, ap, length, sym, arith}
use Rattle.lrc_page.specs.Page.{words_of}
use Rattle.lrc_table.specs.declared.slot.State.TheVariants.{Absent}
use Rattle.lrc_table.specs.PageCopy.{PageCopy, is_written}
use Rattle.lrc_table.specs.Table.{Table, copy_at}
use Rattle.lrc_table.proofs.Tables.{read_is, sound-changed, whole-installed, whole-read}
use Rattle.lrc_table.proofs.table.PageTable.install.Goals as goal

pub install-requires : goal.install-requires
install-requires c =
    let table : Table = record { size = c.self.inside.size; copies = c.self.inside.slots.items } in
    let within : c.from.result < length table.copies =
    omega (arith, c.from.ensures, ap (λ (t : Table). length t.copies) c.self.view_is, c.requires.in_range) in
    let whole = whole-read table c.self.inside.written c.from.result c.index_mut.result.now c.self.invariant within c.index_mut.ensures.value in
    c.requires.sized ∙ sym (ap (λ (t : Table). words_of t.size) c.self.view_is) ∙ sym whole.values

pub invariant_of-self : goal.invariant_of-self
invariant_of-self c =
    let table : Table = record { size = c.self.inside.size; copies = c.self.inside.slots.items } in
    let within : c.from.result < length table.copies =
    omega (arith, c.from.ensures, ap (λ (t : Table). length t.copies) c.self.view_is, c.requires.in_range) in
    let absent : c.index_mut.result.now.state ≡ Absent =
    ap (λ (copy : PageCopy). copy.state) (read_is table c.from.result c.args.page c.index_mut.result.now within c.from.ensures c.index_mut.ensures.value)
    ∙ ap (λ (t : Table). (copy_at t c.args.page).state) c.self.view_is
    ∙ c.requires.absent in
    let sized : length c.args.copy ≡ words_of table.size = c.requires.sized ∙ sym (ap (λ (t : Table). words_of t.size) c.self.view_is) in
    sound-changed table c.self.inside.written c.from.result c.index_mut.result.now c.install.new.self c.self.invariant within
    c.index_mut.ensures.value
    (λ whole. rw c.install.ensures (whole-installed table.size c.index_mut.result.now c.args.copy sized absent whole))
    (ap (λ (copy : PageCopy). is_written copy.state) c.install.ensures ∙ sym (ap is_written absent))
