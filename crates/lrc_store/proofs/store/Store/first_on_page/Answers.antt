use Rattle.std.proofs.Common.{◌≡◌, ℕ, List, ap, sym, ◌∙◌, arith}
use Rattle.lrc_store.specs.Lists.{first_on_page_of, head_of}
use Rattle.lrc_store.specs.Store.{StoreRecord}
use Rattle.lrc_store.proofs.Followed.{head_within}
use Rattle.lrc_store.proofs.LinkedStores.{noted_pages, noted_long}
use Rattle.lrc_store.proofs.store.Store.first_on_page.Goals as goal
use Rattle.lrc_store.proofs.store.Store.first_on_page.Goals.{After-first}

-- where the page's list begins
first : (c : After-first) → c.first.result ≡ first_on_page_of c.args.self.now c.args.page
first c =
    let store : StoreRecord = record { pages = c.self.inside.pages; last = c.self.inside.last; entries = c.self.inside.arena.entries } in
    c.first.ensures
    ∙ ap (λ (keys : List ℕ). head_of keys c.args.page)
    (noted_pages store c.self.inside.links.by_node c.self.inside.links.by_page c.self.inside.arena.notices c.self.invariant)
    ∙ ap (λ (s : StoreRecord). first_on_page_of s c.args.page) c.self.view_is

pub returns-in_err-place-clause-first : goal.returns-in_err-place-clause-first
returns-in_err-place-clause-first c =
    c.from_residual.ensures ∙ sym c.in_err-place.was ∙ first (goal.at.returns-in_err-place-clause-first c).After-first

pub returns-clause-first : goal.returns-clause-first
returns-clause-first c = sym c.in_ok-place.was ∙ first (goal.at.returns-clause-first c).After-first

pub returns-clause-in_use : goal.returns-clause-in_use
returns-clause-in_use c = λ at is.
    let store : StoreRecord = record { pages = c.self.inside.pages; last = c.self.inside.last; entries = c.self.inside.arena.entries } in
    let long = noted_long store c.args.self.now c.self.inside.links.by_node c.self.inside.links.by_page c.self.inside.arena.notices c.self.invariant c.self.view_is in
    let within = head_within c.self.inside.links.by_page.keys c.args.page at (sym c.first.ensures ∙ c.in_ok-place.was ∙ is) in
    omega (arith, within, long)
