use Rattle.std.proofs.Common.{◌≡◌, ℕ, List, sym, ap, ◌∙◌, Option, None, Some, ◌<◌, get_or, [], subst}
use Rattle.std.specs.List.{All, position, find}
use Rattle.std.specs.Option.{option_copied, option_and_then}
use Rattle.lrc_page.specs.declared.changes.Change.{Change}
use Rattle.lrc_store.specs.Store.{StoredRecord, StoreRecord, is_at, notice_of}
use Rattle.lrc_store.proofs.LinkedStores.{nodes_in_range}
use Rattle.lrc_store.proofs.Places.{find-position, find-position_none}
use Rattle.lrc_store.proofs.store.Store.changes.Goals as goal

abbrev none : StoredRecord
none = record { node = 0; stamp = []; notices = [] }

-- the changes that a look-up gives
abbrev looked_up : ℕ → Option StoredRecord → Option (List Change)
looked_up page found = option_and_then (λ notice. notice.changes) (option_and_then (notice_of page) found)

pub returns-in_err-place : goal.returns-in_err-place
returns-in_err-place c =
    let test = is_at c.args.key.node c.args.key.index in
    let here : c.self.inside.arena.entries ≡ c.args.self.now.entries = ap (λ (s : StoreRecord). s.entries) c.self.view_is in
    let none : position test c.args.self.now.entries ≡ None =
    ap (position test) (sym here) ∙ sym c.place_of.ensures ∙ c.in_err-place.was in
    ap option_copied c.from_residual.ensures
    ∙ sym (ap (looked_up c.args.key.page) (find-position_none test _ none))

pub returns : goal.returns
returns c =
    let test = is_at c.args.key.node c.args.key.index in
    let items = c.self.inside.arena.entries in
    let place : position test items ≡ Some c.in_ok-place.place = sym c.place_of.ensures ∙ c.in_ok-place.was in
    let found : find test items ≡ Some (get_or items c.in_ok-place.place none) = find-position test items c.in_ok-place.place none place in
    c.changes.ensures none
    ∙ sym (ap (looked_up c.args.key.page) found)
    ∙ ap (λ (s : StoreRecord). looked_up c.args.key.page (find test s.entries)) c.self.view_is

pub place_of-requires-clause-in_range : goal.place_of-requires-clause-in_range
place_of-requires-clause-in_range c =
    let store : StoreRecord = record { pages = c.self.inside.pages; last = c.self.inside.last; entries = c.self.inside.arena.entries } in
    subst (λ n. All (λ stored. stored.node < n) c.self.inside.arena.entries) c.self.invariant.node_lists
    (nodes_in_range store c.self.inside.links.by_node c.self.inside.links.by_page c.self.inside.arena.notices c.self.invariant)
