use Rattle.std.proofs.Common.{◌≡◌, ℕ, ◌<◌, ◌∙◌, Some, [], length, get_or, ap, sym, arith}
use Rattle.std.specs.Option.{option_map}
use Rattle.std.proofs.lemmas.List.{get_or-map, length-map}
use Rattle.std.proofs.lemmas.Option.{slice_get-get_or, slice_get_past}
use Rattle.lrc_store.specs.Interval.{IntervalRecord, index_of}
use Rattle.lrc_store.specs.Lists.{interval_at}
use Rattle.lrc_store.specs.Store.{StoredRecord, StoreRecord, interval_of, intervals_of}
use Rattle.lrc_store.proofs.store.Store.interval.Goals as goal
use Rattle.lrc_store.proofs.store.Store.interval.Goals.{After-len}

abbrev none : StoredRecord
none = record { node = 0; stamp = []; notices = [] }

abbrev inner : After-len → StoreRecord
inner c = record { pages = c.self.inside.pages; last = c.self.inside.last; entries = c.self.inside.arena.entries }

-- the link stands for the place
there : (c : After-len) → interval_at (inner c) c.at.inside.place ≡ interval_at c.args.self.now c.args.at
there c = ap (interval_at (inner c)) c.at.view_is ∙ ap (λ (s : StoreRecord). interval_at s c.args.at) c.self.view_is

abbrev node_and_index : IntervalRecord → ℕ × ℕ
node_and_index interval = (interval.node, index_of interval)

pub returns-then-place-len : goal.returns-then-place-len
returns-then-place-len c =
    let a = (goal.at.returns-then-place-len c).After-len in
    let entries = c.self.inside.arena.entries in
    let at = c.at.inside.place in
    let interval = c.interval-interval.result.now in
    let within : at < length entries = omega (arith, c.if-place-len.true, c.len.ensures) in
    let inside : at < length (intervals_of (inner a)) = omega (arith, within, length-map entries interval_of) in
    let read : get_or (intervals_of (inner a)) at interval ≡ interval =
    get_or-map interval_of entries at none interval within ∙ sym (c.interval-interval.ensures none) in
    ap (λ n. Some (n, c.index.result)) c.node.ensures
    ∙ ap (λ n. Some (interval.node, n)) c.index.ensures.index
    ∙ ap (λ (i : IntervalRecord). Some (node_and_index i)) (sym read)
    ∙ ap (option_map node_and_index) (sym (slice_get-get_or (intervals_of (inner a)) at interval inside))
    ∙ there a

pub returns-else-place-len : goal.returns-else-place-len
returns-else-place-len c =
    let a = (goal.at.returns-else-place-len c).After-len in
    let entries = c.self.inside.arena.entries in
    let past = slice_get_past (intervals_of (inner a)) c.at.inside.place
    (omega (arith, c.if-place-len.false, c.len.ensures, length-map entries interval_of)) in
    ap (option_map node_and_index) (sym past) ∙ there a
