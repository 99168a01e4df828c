use Rattle.std.proofs.Common.{◌≡◌, ℕ, List, ap, sym, ◌∙◌, arith}
use Rattle.lrc_store.specs.Lists.{next_on_page_of, link_of}
use Rattle.lrc_store.specs.Store.{StoreRecord}
use Rattle.lrc_store.proofs.Followed.{link_within}
use Rattle.lrc_store.proofs.LinkedStores.{noted_pages, noted_long}
use Rattle.lrc_store.proofs.store.Store.next_on_page.Goals as goal
use Rattle.lrc_store.proofs.store.Store.next_on_page.Goals.{After-next}

pub next-requires : goal.next-requires
next-requires c =
    let store : StoreRecord = record { pages = c.self.inside.pages; last = c.self.inside.last; entries = c.self.inside.arena.entries } in
    let long = noted_long store c.args.self.now c.self.inside.links.by_node c.self.inside.links.by_page c.self.inside.arena.notices c.self.invariant c.self.view_is in
    omega (arith, long, c.requires, c.at.view_is)

-- the next of the page's list
next : (c : After-next) → c.next.result ≡ next_on_page_of c.args.self.now c.args.at
next c =
    let store : StoreRecord = record { pages = c.self.inside.pages; last = c.self.inside.last; entries = c.self.inside.arena.entries } in
    c.next.ensures
    ∙ ap (λ (keys : List ℕ). link_of keys c.at.inside.place)
    (noted_pages store c.self.inside.links.by_node c.self.inside.links.by_page c.self.inside.arena.notices c.self.invariant)
    ∙ ap (λ at. next_on_page_of store at) c.at.view_is
    ∙ ap (λ (s : StoreRecord). next_on_page_of s c.args.at) c.self.view_is

pub returns-in_err-place-clause-next : goal.returns-in_err-place-clause-next
returns-in_err-place-clause-next c =
    c.from_residual.ensures ∙ sym c.in_err-place.was ∙ next (goal.at.returns-in_err-place-clause-next c).After-next

pub returns-clause-next : goal.returns-clause-next
returns-clause-next c = sym c.in_ok-place.was ∙ next (goal.at.returns-clause-next c).After-next

pub returns-clause-in_use : goal.returns-clause-in_use
returns-clause-in_use c = λ earlier is.
    let store : StoreRecord = record { pages = c.self.inside.pages; last = c.self.inside.last; entries = c.self.inside.arena.entries } in
    let long = noted_long store c.args.self.now c.self.inside.links.by_node c.self.inside.links.by_page c.self.inside.arena.notices c.self.invariant c.self.view_is in
    let less = link_within c.self.inside.links.by_page.keys c.at.inside.place earlier (omega (arith, long, c.requires, c.at.view_is))
    (sym c.next.ensures ∙ c.in_ok-place.was ∙ is) in
    omega (arith, less, c.at.view_is)
