use Rattle.std.proofs.Common.{◌∙◌, length, ap, sym, arith}
use Rattle.std.proofs.lemmas.List.{length-map}
use Rattle.lrc_store.specs.Interval.{IntervalRecord}
use Rattle.lrc_store.specs.Store.{StoreRecord, intervals_of}
use Rattle.lrc_store.proofs.Followed.{link_within}
use Rattle.lrc_store.proofs.store.Store.before.Goals as goal

pub returns-clause-in_use : goal.returns-clause-in_use
returns-clause-in_use c = λ earlier is.
    let store : StoreRecord = record { pages = c.self.inside.pages; last = c.self.inside.last; entries = c.self.inside.arena.entries } in
    let less = link_within c.self.inside.links.by_node.keys c.at.inside.place earlier
    (omega (
      arith,
      c.requires,
      c.at.view_is,
      ap length c.self.invariant.nodes,
      length-map (intervals_of store) (λ (i : IntervalRecord). i.node),
      ap (λ (s : StoreRecord). length (intervals_of s)) c.self.view_is,
    ))
    (sym c.next.ensures ∙ c.in_ok-place.was ∙ is) in
    omega (arith, less, c.at.view_is)
