use Rattle.std.proofs.Common.{◌≡◌, ◌+◌, ◌∙◌, ◌++◌, ◌∷◌, [], ℕ, List, length, get_or, map, take, ap, sym, subst, arith, rules, cond, drop, refl, ◌<◌}
use Rattle.std.proofs.lemmas.List.{length-append, length-map, map_push, map-append, take_more, take-append-drop}
use Rattle.std.proofs.lemmas.Bool.{eq-eqb}
use Rattle.lrc_store.specs.Interval.{IntervalRecord}
use Rattle.lrc_store.specs.Nodes.{AreStarts}
use Rattle.lrc_store.specs.Store.{NoticeRecord, StoredRecord, interval_of}
use Rattle.lrc_store.specs.Lists.{places_from}
use Rattle.lrc_store.specs.Rows.{HaveRoom}
use Rattle.lrc_store.proofs.Followed.{places_from-push}
use Rattle.lrc_store.proofs.Rowed.{places_from-front}
use Rattle.lrc_store.proofs.Starts.{count_of-entries, count_of-more, AreStarts-push}
use Rattle.lrc_store.proofs.links.link_nodes.Goals as goal
use Rattle.lrc_store.proofs.links.link_nodes.Goals.{After-from, After-len-start}

abbrev none : StoredRecord
none = record { node = 0; stamp = []; notices = [] }

within : (c : After-from) → c.loop-at.at < length c.args.arena.now.entries
within c = omega (arith, c.loop-at-test.true, c.len-at-end.ensures)

-- the node that is linked
node_here : (c : After-from) → c.from.result ≡ (get_or c.args.arena.now.entries c.loop-at.at none).node
node_here c = c.from.ensures ∙ c.node.ensures ∙ ap (λ (i : IntervalRecord). i.node) (c.interval-interval.ensures none)

-- how many notices it has
count_here : (c : After-len-start) → c.len-start.result ≡ length (get_or c.args.arena.now.entries c.loop-at.at none).notices
count_here c =
    c.len-start.ensures.count
    ∙ ap (λ (i : IntervalRecord). length i.pages) (c.interval.view_is ∙ c.interval-interval.ensures none)
    ∙ length-map (get_or c.args.arena.now.entries c.loop-at.at none).notices (λ (notice : NoticeRecord). notice.page)

pub overflow_cast-start : goal.overflow_cast-start
overflow_cast-start c =
    omega (arith, c.loop-at.invariant.4, count_of-entries c.args.arena.now.entries c.loop-at.at, c.requires.few)

pub overflow_add-start : goal.overflow_add-start
overflow_add-start c =
    let entries = c.args.arena.now.entries in
    let n = c.loop-at.at in
    let more = count_of-more entries n none (within (goal.at.overflow_add-start c).After-from) in
    omega (arith, c.loop-at.invariant.4, more, count_here c, count_of-entries entries (n + 1), c.requires.few)

pub push-requires-clause-in_range : goal.push-requires-clause-in_range
push-requires-clause-in_range c =
    omega (
      arith,
      node_here c,
      c.requires.in_range c.loop-at.at none (within c),
      c.loop-at.invariant.1,
      c.clear.ensures.lists,
    )

pub loop-at-preserved : goal.loop-at-preserved
loop-at-preserved c =
    let a = (goal.at.loop-at-preserved c).After-from in
    let entries = c.args.arena.now.entries in
    let n = c.loop-at.at in
    let item = get_or entries n none in
    let before = map interval_of (take n entries) in
    let more : map interval_of (take (n + 1) entries) ≡ before ++ interval_of item ∷ [] =
    ap (map interval_of) (take_more entries n none (within a)) ∙ map_push interval_of (take n entries) item in
    let count = count_of-more entries n none (within a) in (
      c.push.ensures.keys
          ∙ ap (λ (l : List ℕ). l ++ c.from.result ∷ []) c.loop-at.invariant.0
          ∙ ap (λ k. map (λ (s : StoredRecord). s.node) (take n entries) ++ k ∷ []) (node_here a)
          ∙ sym (map_push (λ (s : StoredRecord). s.node) (take n entries) item)
          ∙ ap (map (λ (s : StoredRecord). s.node)) (sym (take_more entries n none (within a))),
      search rules,
      search rules,
      subst (AreStarts c.push.new.self.starts) (sym more)
          (subst (λ (l : List ℕ). AreStarts l (before ++ interval_of item ∷ [])) (sym c.push.ensures.starts)
          (AreStarts-push c.loop-at.by_node.starts before (interval_of item) c.loop-at.start c.loop-at.invariant.3 c.loop-at.invariant.4)),
      omega (arith, c.loop-at.invariant.4, count, count_here (goal.at.loop-at-preserved c).After-len-start),
      subst (λ m. HaveRoom m c.push.new.self.rows (map (λ (s : StoredRecord). s.node) entries)) c.loop-at.invariant.1
          (c.push.ensures.rows (map (λ (s : StoredRecord). s.node) entries)
          (subst (λ m. HaveRoom m c.loop-at.by_node.rows (map (λ (s : StoredRecord). s.node) entries)) (sym c.loop-at.invariant.1) c.loop-at.invariant.5)),
    )

pub push-requires-clause-row : goal.push-requires-clause-row
push-requires-clause-row c = λ d.
    let entries = c.args.arena.now.entries in
    let n = c.loop-at.at in
    let node = c.from.result in
    let front = map (λ (s : StoredRecord). s.node) (take n entries) in
    let all = map (λ (s : StoredRecord). s.node) entries in
    let here : (get_or entries n none).node ≡ node = sym (node_here c) in
    let inside : node < c.args.by_node.now.lists = omega (arith, here, c.requires.in_range n none (within c)) in
    let more : map (λ (s : StoredRecord). s.node) (take (n + 1) entries) ≡ front ++ node ∷ [] =
    ap (map (λ (s : StoredRecord). s.node)) (take_more entries n none (within c))
    ∙ map_push (λ (s : StoredRecord). s.node) (take n entries) (get_or entries n none) ∙ ap (λ k. front ++ k ∷ []) here in
    let split : all ≡ (front ++ node ∷ []) ++ map (λ (s : StoredRecord). s.node) (drop (n + 1) entries) =
    ap (map (λ (s : StoredRecord). s.node)) (sym (take-append-drop (n + 1) entries))
    ∙ map-append (λ (s : StoredRecord). s.node) (take (n + 1) entries) (drop (n + 1) entries)
    ∙ ap (λ (l : List ℕ). l ++ map (λ (s : StoredRecord). s.node) (drop (n + 1) entries)) more in
    let longer = places_from-front node (front ++ node ∷ []) (map (λ (s : StoredRecord). s.node) (drop (n + 1) entries)) in
    let one = ap length (places_from-push node 0 front node
    ∙ ap (λ b. places_from node 0 front ++ cond b ((0 + length front) ∷ []) []) (eq-eqb node node refl)) in
    let count = length-append (places_from node 0 front) ((0 + length front) ∷ []) in
    let whole = ap (λ (l : List ℕ). length (places_from node 0 l)) split in
    let keys = ap (λ (l : List ℕ). length (places_from node 0 l)) c.loop-at.invariant.0 in
    let room = c.loop-at.invariant.5 node d (omega (arith, inside, c.clear.ensures.lists)) in
    omega (arith, longer, one, count, whole, keys, room)
