use Rattle.std.proofs.Common.{◌≡◌, ℕ, List, map, sym, ap, ◌∙◌, subst, Option, None, Some, ◌<◌, get_or, []}
use Rattle.std.specs.List.{All, position}
use Rattle.std.specs.Option.{option_and_then}
use Rattle.std.proofs.lemmas.List.{get_or_default}
use Rattle.std.proofs.lemmas.List.Quantifiers.{position-Some}
use Rattle.lrc_store.specs.declared.key.Key.{Key}
use Rattle.lrc_store.specs.Arena.{ArenaRecord}
use Rattle.lrc_store.specs.Store.{StoredRecord, StoreRecord, attached, is_at, notice_of, stored_with}
use Rattle.lrc_store.proofs.Places.{find-position_none}
use Rattle.lrc_store.specs.Links.{IsLinkedUp}
use Rattle.lrc_store.proofs.LinkedStores.{nodes_in_range, IsLinkedUp-attached}
use Rattle.lrc_store.proofs.Stores.{map-stored_with}
use Rattle.lrc_store.proofs.store.Store.attach.Goals as goal
use Rattle.lrc_store.proofs.store.Store.attach.Goals.{After-attach}

abbrev none : StoredRecord
none = record { node = 0; stamp = []; notices = [] }

-- the entries with the changes kept
entries_after : (c : After-attach) → c.attach.new.self.entries ≡ map (stored_with c.args.key c.args.changes) c.self.inside.arena.entries
entries_after c =
    let items = c.self.inside.arena.entries in
    let key = c.args.key in
    let found : position (is_at key.node key.index) items ≡ Some c.in-Some.place = sym c.place_of.ensures ∙ c.in-Some.is in
    let within = (position-Some (is_at key.node key.index) items c.in-Some.place none found).0 in
    let read : get_or items c.in-Some.place none ≡ get_or items c.in-Some.place (get_or items c.in-Some.place none) =
    get_or_default items c.in-Some.place none (get_or items c.in-Some.place none) within in
    c.attach.ensures.entries none
    ∙ sym (map-stored_with items key c.args.changes c.in-Some.place c.self.invariant.sound.ascending found
    (get_or items c.in-Some.place none) read)

arena_after : (c : After-attach)
    → c.attach.new.self ≡ record { entries = map (stored_with c.args.key c.args.changes) c.self.inside.arena.entries; notices = c.self.inside.arena.notices }
arena_after c =
    ap (λ (entries : List StoredRecord). record { entries = entries; notices = c.attach.new.self.notices }) (entries_after c)
    ∙ ap (λ (notices : List (ℕ × Key)). record { entries = map (stored_with c.args.key c.args.changes) c.self.inside.arena.entries; notices = notices })
    c.attach.ensures.notices

pub invariant_of-self : goal.invariant_of-self
invariant_of-self c =
    let a = (goal.at.invariant_of-self c).After-attach in
    let store : StoreRecord = record { pages = a.self.inside.pages; last = a.self.inside.last; entries = a.self.inside.arena.entries } in
    subst (λ (arena : ArenaRecord). IsLinkedUp (record store { entries = arena.entries }) a.self.inside.links.by_node a.self.inside.links.by_page arena.notices)
    (sym (arena_after a))
    (IsLinkedUp-attached store a.self.inside.links.by_node a.self.inside.links.by_page a.self.inside.arena.notices a.args.key a.args.changes a.self.invariant)

pub returns-in-Some : goal.returns-in-Some
returns-in-Some c =
    let a = (goal.at.returns-in-Some c).After-attach in
    ap (λ (entries : List StoredRecord). record { pages = a.self.inside.pages; last = a.self.inside.last; entries = entries }) (entries_after a)
    ∙ ap (λ (s : StoreRecord). attached s a.args.key a.args.changes) a.self.view_is

pub returns-in_default : goal.returns-in_default
returns-in_default c =
    let test = is_at c.args.key.node c.args.key.index in
    let here : c.self.inside.arena.entries ≡ c.args.self.now.entries = ap (λ (s : StoreRecord). s.entries) c.self.view_is in
    let none : position test c.args.self.now.entries ≡ None =
    ap (position test) (sym here) ∙ sym c.place_of.ensures ∙ c.in_default.is in
    let missed = ap (λ (found : Option StoredRecord). option_and_then (notice_of c.args.key.page) found) (find-position_none test _ none) in
    let wanted = c.requires in
    absurd (cc)

pub place_of-requires-clause-in_range : goal.place_of-requires-clause-in_range
place_of-requires-clause-in_range c =
    let store : StoreRecord = record { pages = c.self.inside.pages; last = c.self.inside.last; entries = c.self.inside.arena.entries } in
    subst (λ n. All (λ stored. stored.node < n) c.self.inside.arena.entries) c.self.invariant.node_lists
    (nodes_in_range store c.self.inside.links.by_node c.self.inside.links.by_page c.self.inside.arena.notices c.self.invariant)
