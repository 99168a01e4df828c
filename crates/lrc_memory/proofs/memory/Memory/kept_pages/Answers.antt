use Rattle.std.proofs.Common.{◌∙◌, ℕ, List, ap, length, arith}
use Rattle.std.specs.Prelude.{filter}
use Rattle.std.specs.List.{range_with_len}
use Rattle.lrc_memory.specs.declared.memory.PageNote.{PageNote}
use Rattle.lrc_memory.specs.Notes.{keepers_of}
use Rattle.lrc_memory.proofs.Inside.{kept}
use Rattle.lrc_memory.proofs.Attaches.{ok_then}
use Rattle.lrc_memory.proofs.Keepers.{is_kept, kept-seen}
use Rattle.lrc_memory.proofs.Noting.{kept_noted, long-keepers}
use Rattle.lrc_memory.proofs.memory.Memory.kept_pages.Goals as goal

pub kept_pages-requires : goal.kept_pages-requires
kept_pages-requires c = omega (arith, ap length c.deref.ensures.value, c.self.invariant.keepers, long-keepers c.self.inside.notes.items, c.size-few.ensures.few)

pub returns : goal.returns
returns c =
    let store = c.self.inside.store in
    let me = c.self.inside.me in
    let notes = c.self.inside.notes.items in
    let among : List PageNote → List ℕ = λ notes. filter (is_kept store (keepers_of notes) me) (range_with_len 0 (length notes)) in record {
      pages = ok_then c.kept_pages.result c.kept_pages.ensures
          (λ pages is. is ∙ ap among c.deref.ensures.value ∙ kept_noted store me notes ∙ kept-seen (kept c.self.inside) _ c.self.view_is);
    }
