use Rattle.std.proofs.Common.{◌∙◌, ◌<◌, get_or, ap, length, arith}
use Rattle.lrc_protocol.specs.Pages.{keeper_at}
use Rattle.lrc_memory.specs.Notes.{keepers_of}
use Rattle.lrc_memory.specs.View.{NodeMemory}
use Rattle.lrc_memory.proofs.Inside.{kept}
use Rattle.lrc_memory.proofs.Copies.{within-seen}
use Rattle.lrc_memory.proofs.Noting.{keeper-at, long-keepers}
use Rattle.lrc_memory.proofs.memory.Memory.keeper.Goals as goal

pub index-requires : goal.index-requires
index-requires c =
    omega (
      arith,
      c.from.ensures,
      c.self.invariant.keepers,
      long-keepers c.self.inside.notes.items,
      within-seen (kept c.self.inside) _ _ c.self.view_is c.requires,
    )

pub returns : goal.returns
returns c =
    let notes = c.self.inside.notes.items in
    let within : c.args.page < length c.self.inside.table.copies = within-seen (kept c.self.inside) _ _ c.self.view_is c.requires in
    keeper-at notes c.from.result c.index.result.now c.index.ensures
    (omega (arith, c.from.ensures, c.self.invariant.keepers, long-keepers notes, within))
    ∙ ap (λ p. get_or (keepers_of notes) p 0) c.from.ensures
    ∙ ap (λ (n : NodeMemory). keeper_at n.memory c.args.page) c.self.view_is
