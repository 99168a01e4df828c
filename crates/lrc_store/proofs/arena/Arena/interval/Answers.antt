use Rattle.std.proofs.Common.{length, get_or, ap, sym, ◌∙◌, arith}
use Rattle.lrc_store.specs.Arena.{ArenaRecord}
use Rattle.lrc_store.specs.Store.{interval_of}
use Rattle.lrc_store.proofs.Arenas.{length-stored, interval_of-stored}
use Rattle.lrc_store.proofs.arena.Arena.interval.Goals as goal

pub index-requires : goal.index-requires
index-requires c =
    omega (
      arith,
      c.requires,
      length-stored c.self.inside.intervals.items c.self.inside.notices.items,
      ap (λ (a : ArenaRecord). length a.entries) c.self.view_is,
    )

pub returns : goal.returns
returns c = λ d.
    c.index.ensures
    ∙ sym (interval_of-stored c.self.inside.intervals.items c.self.inside.notices.items c.args.at c.index.result.now d
    (omega (
      arith,
      c.requires,
      length-stored c.self.inside.intervals.items c.self.inside.notices.items,
      ap (λ (a : ArenaRecord). length a.entries) c.self.view_is,
    ))
    c.self.invariant)
    ∙ ap (λ (a : ArenaRecord). interval_of (get_or a.entries c.args.at d)) c.self.view_is
