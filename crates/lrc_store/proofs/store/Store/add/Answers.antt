use Rattle.std.proofs.Common.{◌≡◌, ℕ, List, length, [], ◌∷◌, ◌++◌, set, sym, ap, ◌∙◌, subst}
use Rattle.lrc_store.specs.Interval.{IntervalRecord, index_of}
use Rattle.lrc_store.specs.Arena.{ArenaRecord}
use Rattle.lrc_store.specs.Store.{StoreRecord, StoredRecord, added, without_changes}
use Rattle.lrc_store.specs.Links.{IsLinkedUp}
use Rattle.lrc_store.proofs.LinkedStores.{IsLinkedUp-added, IsLinkedUp-same}
use Rattle.lrc_store.proofs.store.Store.add.Goals as goal
use Rattle.lrc_store.proofs.store.Store.add.Goals.{After-raise}

-- the store as it was, by its fields
abbrev before : After-raise → StoreRecord
before c = record { pages = c.self.inside.pages; last = c.self.inside.last; entries = c.self.inside.arena.entries }

-- the store as it is then
abbrev after : After-raise → StoreRecord
after c = record { pages = c.self.inside.pages; last = c.raise.new.self; entries = c.push.new.self.entries }

last_after : (c : After-raise)
    → c.raise.new.self ≡ set c.self.inside.last c.args.interval.now.node (index_of c.args.interval.now)
last_after c =
    let interval = c.args.interval.now in
    let node : c.interval.inside.node ≡ interval.node = ap (λ (i : IntervalRecord). i.node) c.interval.view_is in
    let there : set c.self.inside.last c.interval.inside.node c.index.result ≡ set c.self.inside.last interval.node c.index.result =
    ap (λ n. set c.self.inside.last n c.index.result) node in
    let index : set c.self.inside.last interval.node c.index.result ≡ set c.self.inside.last interval.node (index_of interval) =
    ap (set c.self.inside.last interval.node) c.index.ensures.index in
    c.raise.ensures ∙ there ∙ index

entries_after : (c : After-raise)
    → c.push.new.self.entries ≡ c.self.inside.arena.entries ++ without_changes c.args.interval.now ∷ []
entries_after c = c.in_ok-push.ensures.entries

linked : (c : After-raise) → IsLinkedUp (after c) c.push-2.new.self.by_node c.push-2.new.self.by_page c.push.new.self.notices
linked c =
    let store = before c in
    let interval = c.args.interval.now in
    let is : c.args.self.now ≡ store = sym c.self.view_is in
    let same : after c ≡ added store interval = cc (last_after c, entries_after c) in
    let node : c.from-node.result ≡ interval.node = c.from-node.ensures ∙ ap (λ (i : IntervalRecord). i.node) c.interval.view_is in
    let pages : c.as_slice.result.now ≡ interval.pages = c.as_slice.ensures ∙ ap (λ (i : IntervalRecord). i.pages) c.interval.view_is in
    let room = c.make_room.new.self in
    subst (λ (s : StoreRecord). IsLinkedUp s c.push-2.new.self.by_node c.push-2.new.self.by_page c.push.new.self.notices) (sym same)
    (IsLinkedUp-added store c.self.inside.links.by_node c.push-2.new.self.by_node c.self.inside.links.by_page c.push-2.new.self.by_page
    c.self.inside.arena.notices c.push.new.self.notices interval (length room.by_page.keys) c.self.invariant c.index.ensures.interval
    (rw is at c.requires.stamp) (rw is at c.requires.pages) (rw is at c.requires.next)
    (c.push-2.ensures.node_keys ∙ ap (λ n. room.by_node.keys ++ n ∷ []) node
    ∙ ap (λ (l : List ℕ). l ++ interval.node ∷ []) c.make_room.ensures.same.node_keys)
    (c.push-2.ensures.node_lists ∙ c.make_room.ensures.same.node_lists)
    (c.push-2.ensures.node_starts ∙ ap (λ (l : List ℕ). l ++ length room.by_page.keys ∷ []) c.make_room.ensures.same.node_starts)
    (ap length c.make_room.ensures.same.page_keys)
    (c.push-2.ensures.page_keys ∙ ap (λ (l : List ℕ). room.by_page.keys ++ l) pages
    ∙ ap (λ (l : List ℕ). l ++ interval.pages) c.make_room.ensures.same.page_keys)
    (c.push-2.ensures.page_lists ∙ c.make_room.ensures.same.page_lists)
    c.in_ok-push.ensures.notices)

pub invariant_of-self-2 : goal.invariant_of-self-2
invariant_of-self-2 c = linked c

pub returns-clause-sound : goal.returns-clause-sound
returns-clause-sound c = (linked (goal.at.returns-clause-sound c).After-raise).sound

-- without memory

pub invariant_of-self : goal.invariant_of-self
invariant_of-self c =
    let same = c.make_room.ensures.same in
    IsLinkedUp-same c.self.inside.links.by_node c.make_room.new.self.by_node c.self.inside.links.by_page c.make_room.new.self.by_page
    c.self.inside.arena.notices (record { pages = c.self.inside.pages; last = c.self.inside.last; entries = c.self.inside.arena.entries })
    c.self.invariant same.node_keys same.node_lists same.node_starts same.page_keys same.page_lists

pub invariant_of-self-in_err-push : goal.invariant_of-self-in_err-push
invariant_of-self-in_err-push c =
    let same = c.make_room.ensures.same in
    subst (λ (a : ArenaRecord). IsLinkedUp (record { pages = c.self.inside.pages; last = c.self.inside.last; entries = a.entries })
    c.make_room.new.self.by_node c.make_room.new.self.by_page a.notices) (sym c.in_err-push.ensures.err)
    (IsLinkedUp-same c.self.inside.links.by_node c.make_room.new.self.by_node c.self.inside.links.by_page c.make_room.new.self.by_page
    c.self.inside.arena.notices (record { pages = c.self.inside.pages; last = c.self.inside.last; entries = c.self.inside.arena.entries })
    c.self.invariant same.node_keys same.node_lists same.node_starts same.page_keys same.page_lists)

pub returns-clause-ok : goal.returns-clause-ok
returns-clause-ok c =
    let last = c.self.inside.last in
    let make : List ℕ → List StoredRecord → StoreRecord =
    λ last entries. record { pages = c.self.inside.pages; last = last; entries = entries } in
    let a = (goal.at.returns-clause-ok c).After-raise in
    ap (λ last. make last c.push.new.self.entries) (last_after a)
    ∙ ap (make (set last c.args.interval.now.node (index_of c.args.interval.now))) (entries_after a)
    ∙ ap (λ (s : StoreRecord). added s c.args.interval.now) c.self.view_is
