use Rattle.std.proofs.Common.{length, ap, arith}
use Rattle.lrc_store.specs.Arena.{ArenaRecord}
use Rattle.lrc_store.proofs.Arenas.{length-stored}
use Rattle.lrc_store.proofs.arena.Arena.len.Goals as goal

pub returns : goal.returns
returns c =
    omega (
      arith,
      c.len.ensures,
      c.self.inside.intervals.ok.0,
      length-stored c.self.inside.intervals.items c.self.inside.notices.items,
      ap (λ (a : ArenaRecord). length a.entries) c.self.view_is,
    )
