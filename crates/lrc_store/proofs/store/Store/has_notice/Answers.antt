use Rattle.std.proofs.Common.{◌≡◌, ℕ, sym, ap, ◌∙◌, Bool, Option, None, Some, ◌<◌, get_or, [], subst}
use Rattle.std.specs.List.{All, position, find}
use Rattle.std.specs.Option.{is_some, option_and_then}
use Rattle.lrc_store.specs.Store.{StoredRecord, StoreRecord, is_at, notice_of}
use Rattle.lrc_store.proofs.LinkedStores.{nodes_in_range}
use Rattle.lrc_store.proofs.Places.{find-position, find-position_none}
use Rattle.lrc_store.proofs.store.Store.has_notice.Goals as goal

abbrev none : StoredRecord
none = record { node = 0; stamp = []; notices = [] }

-- whether what a look-up gives names the page
abbrev names : ℕ → Option StoredRecord → Bool
names page found = is_some (option_and_then (notice_of page) found)

pub returns-in_default : goal.returns-in_default
returns-in_default c =
    let test = is_at c.args.key.node c.args.key.index in
    let here : c.self.inside.arena.entries ≡ c.args.self.now.entries = ap (λ (s : StoreRecord). s.entries) c.self.view_is in
    let none : position test c.args.self.now.entries ≡ None =
    ap (position test) (sym here) ∙ sym c.place_of.ensures ∙ c.in_default.is in
    sym (ap (names c.args.key.page) (find-position_none test _ none))

pub returns-in-Some : goal.returns-in-Some
returns-in-Some c =
    let test = is_at c.args.key.node c.args.key.index in
    let items = c.self.inside.arena.entries in
    let place : position test items ≡ Some c.in-Some.place =
    sym c.place_of.ensures ∙ c.in-Some.is in
    let found : find test items ≡ Some (get_or items c.in-Some.place none) = find-position test items c.in-Some.place none place in
    c.has_notice.ensures none
    ∙ sym (ap (names c.args.key.page) found)
    ∙ ap (λ (s : StoreRecord). names c.args.key.page (find test s.entries)) c.self.view_is

pub place_of-requires-clause-in_range : goal.place_of-requires-clause-in_range
place_of-requires-clause-in_range c =
    let store : StoreRecord = record { pages = c.self.inside.pages; last = c.self.inside.last; entries = c.self.inside.arena.entries } in
    subst (λ n. All (λ stored. stored.node < n) c.self.inside.arena.entries) c.self.invariant.node_lists
    (nodes_in_range store c.self.inside.links.by_node c.self.inside.links.by_page c.self.inside.arena.notices c.self.invariant)
