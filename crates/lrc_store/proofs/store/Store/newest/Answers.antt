use Rattle.std.proofs.Common.{◌∙◌, length, ap, sym, arith}
use Rattle.std.proofs.lemmas.List.{length-map}
use Rattle.lrc_store.specs.Interval.{IntervalRecord}
use Rattle.lrc_store.specs.Store.{StoreRecord, intervals_of}
use Rattle.lrc_store.proofs.Followed.{head_within}
use Rattle.lrc_store.proofs.store.Store.newest.Goals as goal

pub returns-clause-in_use : goal.returns-clause-in_use
returns-clause-in_use c = λ at is.
    let within = head_within c.self.inside.links.by_node.keys c.from.result at (sym c.first.ensures ∙ c.in_ok-place.was ∙ is) in
    let store : StoreRecord = record { pages = c.self.inside.pages; last = c.self.inside.last; entries = c.self.inside.arena.entries } in
    omega (
      arith,
      within,
      ap length c.self.invariant.nodes,
      length-map (intervals_of store) (λ (i : IntervalRecord). i.node),
      ap (λ (s : StoreRecord). length (intervals_of s)) c.self.view_is,
    )
