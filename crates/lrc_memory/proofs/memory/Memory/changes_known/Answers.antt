use Rattle.std.proofs.Common.{◌≡◌, ◌∙◌, ap, length, Some, None, sym, arith}
use Rattle.lrc_store.specs.declared.key.Key.{Key}
use Rattle.lrc_memory.specs.Notes.{named_of}
use Rattle.lrc_memory.specs.View.{unmade}
use Rattle.lrc_memory.proofs.Inside.{kept}
use Rattle.lrc_memory.proofs.Copies.{within-seen}
use Rattle.lrc_memory.proofs.Known.{known-made, known-unmade}
use Rattle.lrc_memory.proofs.Noting.{long-named}
use Rattle.lrc_memory.proofs.Attaches.{ok_then}
use Rattle.lrc_memory.proofs.memory.Memory.changes_known.Goals as goal

pub unmade-requires-clause-page : goal.unmade-requires-clause-page
unmade-requires-clause-page c = within-seen (kept c.self.inside) _ _ c.self.view_is c.requires

pub unmade-requires-clause-noted : goal.unmade-requires-clause-noted
unmade-requires-clause-noted c =
    omega (
      arith,
      ap length c.deref.ensures.value,
      c.self.invariant.named,
      long-named c.self.inside.notes.items,
      within-seen (kept c.self.inside) _ _ c.self.view_is c.requires,
    )

pub returns-in-Some : goal.returns-in-Some
returns-in-Some c =
    let k = kept c.self.inside in
    let key : Key = record { node = c.args.node; index = c.args.index; page = c.args.page } in
    let to_make : unmade k.me k.named k.table key ≡ Some c.in-Some.changes =
    sym (ap (λ notes. unmade k.me (named_of notes) k.table key) c.deref.ensures.value) ∙ sym c.in_ok-unmade.ensures ∙ c.in-Some.is in
    known-unmade k c.args.self.now key c.in-Some.changes c.self.view_is c.self.invariant to_make

pub returns-in-None : goal.returns-in-None
returns-in-None c =
    let k = kept c.self.inside in
    let key : Key = record { node = c.args.node; index = c.args.index; page = c.args.page } in
    let none : unmade k.me k.named k.table key ≡ None =
    sym (ap (λ notes. unmade k.me (named_of notes) k.table key) c.deref.ensures.value) ∙ sym c.in_ok-unmade.ensures ∙ c.in-None.is in
    ok_then c.made.result c.made.ensures (λ changes is. is ∙ known-made k c.args.self.now key c.self.view_is none)
