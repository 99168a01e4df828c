use Rattle.std.proofs.Common.{◌≡◌, ◌∙◌, Some, None, get_or, ap, sym, subst, arith, rules}
use Rattle.lrc_store.specs.Store.{notice_at}
use Rattle.lrc_table.specs.PageCopy.{pending_changes}
use Rattle.lrc_table.specs.Table.{copy_at}
use Rattle.lrc_memory.specs.Notes.{named_of}
use Rattle.lrc_memory.specs.View.{settled_store}
use Rattle.lrc_memory.proofs.Noting.{named-read}
use Rattle.lrc_memory.proofs.Settling.{sized-pending}
use Rattle.lrc_memory.proofs.settle.settle_page.Goals as goal

pub attach-requires : goal.attach-requires
attach-requires c =
    let notes = c.args.notes.now in
    let d = c.index-notes-from.result in
    let index : (get_or notes c.from.result d).named ≡ get_or (named_of notes) c.args.page 0 =
    named-read notes c.from.result d (omega (arith, c.from.ensures, c.requires.noted))
    ∙ ap (λ p. get_or (named_of notes) p 0) c.from.ensures in
    subst (λ i. notice_at c.args.store.now (record { node = c.args.me; index = i; page = c.args.page }) ≡ Some (record { page = c.args.page; changes = None }))
    (sym index) (search rules)

pub returns-in-Some-clause-store : goal.returns-in-Some-clause-store
returns-in-Some-clause-store c =
    let notes = c.args.notes.now in
    let d = c.index-notes-from.result in
    let index : (get_or notes c.from.result d).named ≡ get_or (named_of notes) c.args.page 0 =
    named-read notes c.from.result d (omega (arith, c.from.ensures, c.requires.noted))
    ∙ ap (λ p. get_or (named_of notes) p 0) c.from.ensures in
    subst (λ i. c.attach.new.self ≡ settled_store c.args.store.now (record { node = c.args.me; index = i; page = c.args.page })
    (pending_changes (copy_at c.args.table.now c.args.page))) index (search rules)

pub returns-in_err-changes-clause-sized : goal.returns-in_err-changes-clause-sized
returns-in_err-changes-clause-sized c = sized-pending c.args.table.now c.args.page c.size-whole.ensures.whole c.requires.page

pub returns-in-Some-clause-sized : goal.returns-in-Some-clause-sized
returns-in-Some-clause-sized c = sized-pending c.args.table.now c.args.page c.size-whole.ensures.whole c.requires.page

pub returns-in_default-clause-sized : goal.returns-in_default-clause-sized
returns-in_default-clause-sized c = sized-pending c.args.table.now c.args.page c.size-whole.ensures.whole c.requires.page
