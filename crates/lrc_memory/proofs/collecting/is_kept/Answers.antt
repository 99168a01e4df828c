use Rattle.std.proofs.Common.{◌≡◌, ◌∙◌, ◌&&◌, eqb, get_or, true, false, ap, sym, arith}
use Rattle.std.specs.Prelude.{is_some}
use Rattle.lrc_store.specs.Store.{intervals_of}
use Rattle.lrc_protocol.specs.Times.{is_named}
use Rattle.lrc_memory.specs.Notes.{keepers_of}
use Rattle.lrc_memory.proofs.Noting.{keeper-read}
use Rattle.lrc_memory.proofs.Keepers.{first-named}
use Rattle.lrc_memory.proofs.collecting.is_kept.Goals as goal

pub returns-then-is_some : goal.returns-then-is_some
returns-then-is_some c =
    let named : is_named (intervals_of c.args.store.now) c.args.page ≡ true =
    sym (first-named c.args.store.now c.args.page) ∙ sym (ap is_some c.first_on_page.ensures.first) ∙ sym c.is_some.ensures ∙ c.if-is_some.true in
    let d = c.index-notes-from.result in
    let here : (get_or c.args.notes.now c.from.result d).keeper ≡ get_or (keepers_of c.args.notes.now) c.args.page 0 =
    keeper-read c.args.notes.now c.from.result d (omega (arith, c.from.ensures, c.requires))
    ∙ ap (λ p. get_or (keepers_of c.args.notes.now) p 0) c.from.ensures in
    ap (λ k. eqb k c.args.me) here
    ∙ sym (ap (λ b. b && eqb (get_or (keepers_of c.args.notes.now) c.args.page 0) c.args.me) named)

pub returns-else-is_some : goal.returns-else-is_some
returns-else-is_some c =
    let named : is_named (intervals_of c.args.store.now) c.args.page ≡ false =
    sym (first-named c.args.store.now c.args.page) ∙ sym (ap is_some c.first_on_page.ensures.first) ∙ sym c.is_some.ensures ∙ c.if-is_some.false in
    c.if-is_some.false ∙ sym (ap (λ b. b && eqb (get_or (keepers_of c.args.notes.now) c.args.page 0) c.args.me) named)
