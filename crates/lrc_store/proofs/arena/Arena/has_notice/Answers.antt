use Rattle.std.proofs.Common.{◌<◌, ◌∙◌, eqb, length, get_or, ap, arith}
use Rattle.std.specs.List.{position}
use Rattle.std.specs.Option.{is_some}
use Rattle.lrc_store.specs.Arena.{ArenaRecord}
use Rattle.lrc_store.specs.Interval.{IntervalRecord}
use Rattle.lrc_store.specs.Store.{notice_of}
use Rattle.lrc_store.proofs.ArenaPlaces.{has_there}
use Rattle.lrc_store.proofs.Arenas.{length-stored}
use Rattle.lrc_store.proofs.arena.Arena.has_notice.Goals as goal

pub index-requires : goal.index-requires
index-requires c =
    omega (
      arith,
      c.requires,
      length-stored c.self.inside.intervals.items c.self.inside.notices.items,
      ap (λ (a : ArenaRecord). length a.entries) c.self.view_is,
    )

pub returns : goal.returns
returns c = λ d.
    let intervals = c.self.inside.intervals.items in
    let noted = c.self.inside.notices.items in
    let within : c.args.at < length intervals =
    omega (arith, c.requires, length-stored intervals noted, ap (λ (a : ArenaRecord). length a.entries) c.self.view_is) in
    c.is_some.ensures
    ∙ ap is_some
    (c.place_of.ensures
    ∙ ap (position (λ named. eqb named c.args.page))
    (c.as_slice.ensures ∙ ap (λ (i : IntervalRecord). i.pages) (c.behind-self.view_is ∙ c.index.ensures)))
    ∙ has_there intervals noted c.self.invariant c.args.at c.index.result.now within c.args.page d
    ∙ ap (λ (a : ArenaRecord). is_some (notice_of c.args.page (get_or a.entries c.args.at d))) c.self.view_is
