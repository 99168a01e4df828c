use Rattle.std.proofs.Common.{◌≡◌, ◌<◌, ℕ, length, List, map, not, sym, ap, ◌∙◌, subst, arith}
use Rattle.std.specs.List.{All, filter}
use Rattle.lrc_store.specs.declared.key.Key.{Key}
use Rattle.std.proofs.lemmas.List.Elements.{All-filter}
use Rattle.std.proofs.lemmas.List.{length-map}
use Rattle.std.proofs.lemmas.List.Sums.{count_by-le-length, length-filter}
use Rattle.lrc_store.specs.Interval.{IntervalRecord}
use Rattle.lrc_store.specs.Store.{StoredRecord, StoreRecord, discarded, interval_of, intervals_of, is_covered}
use Rattle.lrc_store.specs.Nodes.{AreStarts}
use Rattle.lrc_store.specs.Lists.{places_from}
use Rattle.lrc_store.specs.Links.{IsLinkedUp, page_named}
use Rattle.lrc_store.proofs.LinkedStores.{fewer_left, IsLinkedUp-discarded, count_of-noted, noted-discarded, nodes_in_range, pages_in_range, stays}
use Rattle.lrc_store.proofs.Starts.{count_of}
use Rattle.lrc_store.proofs.store.Store.discard.Goals as goal
use Rattle.lrc_store.proofs.store.Store.discard.Goals.{After-discard}

-- the entries that are left
entries_after : (c : After-discard)
    → c.discard.new.self.entries ≡ filter (λ stored. not (is_covered c.args.time.now (interval_of stored))) c.self.inside.arena.entries
entries_after c = c.discard.ensures.entries

-- the notices that are left
notices_after : (c : After-discard) → c.discard.new.self.notices ≡ filter (stays c.args.time.now) c.self.inside.arena.notices
notices_after c = c.discard.ensures.notices

-- the store by its fields
abbrev before : After-discard → StoreRecord
before c = record { pages = c.self.inside.pages; last = c.self.inside.last; entries = c.self.inside.arena.entries }

pub invariant_of-self : goal.invariant_of-self
invariant_of-self c =
    let a = (goal.at.invariant_of-self c).After-discard in
    let b = (goal.at.invariant_of-self c).After-discard in
    let store = before a in
    let time = a.args.time.now in
    subst (λ (entries : List StoredRecord). IsLinkedUp (record store { entries = entries }) c.renew.new.self.by_node
    c.renew.new.self.by_page c.discard.new.self.notices)
    (sym (entries_after a))
    (IsLinkedUp-discarded store a.self.inside.links.by_node c.renew.new.self.by_node a.self.inside.links.by_page c.renew.new.self.by_page
    a.self.inside.arena.notices c.discard.new.self.notices time a.self.invariant
    (c.renew.ensures.node_keys ∙ ap (map (λ (s : StoredRecord). s.node)) (entries_after a))
    c.renew.ensures.node_lists
    (subst (λ (l : List StoredRecord). AreStarts c.renew.new.self.by_node.starts (map interval_of l)) (entries_after a) c.renew.ensures.node_starts)
    (notices_after b)
    c.renew.ensures.page_keys c.renew.ensures.page_lists)

pub renew-requires-clause-fewer_pages : goal.renew-requires-clause-fewer_pages
renew-requires-clause-fewer_pages c =
    let a = (goal.at.renew-requires-clause-fewer_pages c).After-discard in
    let notices = a.self.inside.arena.notices in
    omega (
      arith,
      ap length (notices_after a),
      length-filter (stays a.args.time.now) notices,
      count_by-le-length (stays a.args.time.now) notices,
      ap length a.self.invariant.pages,
      length-map notices page_named,
    )

pub renew-requires-clause-fewer_nodes : goal.renew-requires-clause-fewer_nodes
renew-requires-clause-fewer_nodes c =
    let a = (goal.at.renew-requires-clause-fewer_nodes c).After-discard in
    let entries = a.self.inside.arena.entries in
    omega (
      arith,
      ap length (entries_after a),
      length-filter (λ stored. not (is_covered a.args.time.now (interval_of stored))) entries,
      count_by-le-length (λ stored. not (is_covered a.args.time.now (interval_of stored))) entries,
      ap length a.self.invariant.nodes,
      length-map (map interval_of entries) (λ (i : IntervalRecord). i.node),
      length-map entries interval_of,
    )

pub renew-requires-clause-nodes_in_range : goal.renew-requires-clause-nodes_in_range
renew-requires-clause-nodes_in_range c =
    let a = (goal.at.renew-requires-clause-nodes_in_range c).After-discard in
    let InRange : StoredRecord → Type 0 = λ stored. stored.node < a.self.inside.links.by_node.lists in
    subst (All InRange) (sym (entries_after a))
    (All-filter (λ stored. not (is_covered a.args.time.now (interval_of stored))) InRange a.self.inside.arena.entries
    (nodes_in_range (before a) a.self.inside.links.by_node a.self.inside.links.by_page a.self.inside.arena.notices a.self.invariant))

pub renew-requires-clause-pages_in_range : goal.renew-requires-clause-pages_in_range
renew-requires-clause-pages_in_range c =
    let a = (goal.at.renew-requires-clause-pages_in_range c).After-discard in
    let b = (goal.at.renew-requires-clause-pages_in_range c).After-discard in
    let InRange : ℕ × Key → Type 0 = λ notice. notice.1.page < a.self.inside.links.by_page.lists in
    subst (All InRange) (sym (notices_after b))
    (All-filter (stays a.args.time.now) InRange a.self.inside.arena.notices
    (pages_in_range (before a) a.self.inside.links.by_node a.self.inside.links.by_page a.self.inside.arena.notices a.self.invariant))

pub renew-requires-clause-fewer_of_each : goal.renew-requires-clause-fewer_of_each
renew-requires-clause-fewer_of_each c = λ node.
    let a = (goal.at.renew-requires-clause-fewer_of_each c).After-discard in
    let fewer = fewer_left (before a) a.self.inside.links.by_node a.self.inside.links.by_page a.self.inside.arena.notices a.args.time.now a.self.invariant node in
    let same = ap (λ (l : List StoredRecord). length (places_from node 0 (map (λ (s : StoredRecord). s.node) l))) (entries_after a) in
    omega (arith, fewer, same)

pub renew-requires-clause-noted : goal.renew-requires-clause-noted
renew-requires-clause-noted c =
    let a = (goal.at.renew-requires-clause-noted c).After-discard in
    let b = (goal.at.renew-requires-clause-noted c).After-discard in
    let store = before a in
    let left = discarded store a.args.time.now in
    let count = count_of-noted (intervals_of left) b.discard.new.self.notices
    (noted-discarded store a.self.inside.arena.notices b.discard.new.self.notices a.args.time.now a.self.invariant.noted (notices_after b)) in
    let same : map interval_of a.discard.new.self.entries ≡ intervals_of left = ap (map interval_of) (entries_after a) in
    omega (arith, count, ap count_of same)

pub returns : goal.returns
returns c =
    let a = (goal.at.returns c).After-discard in
    ap (λ (entries : List StoredRecord). record { pages = a.self.inside.pages; last = a.self.inside.last; entries = entries }) (entries_after a)
    ∙ ap (λ (s : StoreRecord). discarded s a.args.time.now) a.self.view_is
