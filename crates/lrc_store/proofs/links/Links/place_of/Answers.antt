use Rattle.std.proofs.Common.{◌≡◌, ◌-◌, ◌<◌, ◌∙◌, eqb, eqb-true, [], length, get_or, map, sym, ap, arith}
use Rattle.std.specs.List.{slice_get}
use Rattle.std.proofs.lemmas.Bool.{and_parts, true≢false}
use Rattle.std.proofs.lemmas.List.{length-map}
use Rattle.std.proofs.lemmas.Option.{none-some, same_Some}
use Rattle.lrc_time.specs.Time.{entry}
use Rattle.lrc_store.specs.Arena.{is_interval_at}
use Rattle.lrc_store.specs.Interval.{IntervalRecord, index_of}
use Rattle.lrc_store.specs.Lists.{list_of}
use Rattle.lrc_store.specs.Store.{StoredRecord, interval_of, is_at}
use Rattle.lrc_store.proofs.Sought.{listed_within, sought_there, sought_nowhere, sought_found}
use Rattle.lrc_store.proofs.links.Links.place_of.Goals as goal
use Rattle.lrc_store.proofs.links.Links.place_of.Goals.{After-nodes, After-from_newest, In_ok-place}

abbrev none : StoredRecord
none = record { node = 0; stamp = []; notices = [] }

pub returns-then-key-nodes : goal.returns-then-key-nodes
returns-then-key-nodes c =
    let entries = c.args.arena.now.entries in
    sym (sought_nowhere c.args.key.node c.args.key.index entries none
    (λ at within is.
    let parts = and_parts (eqb (get_or entries at none).node c.args.key.node) (eqb (index_of (interval_of (get_or entries at none))) c.args.key.index) is in
    let same = eqb-true (get_or entries at none).node c.args.key.node parts.0 in
    omega (arith, same, c.requires.in_range at none within, c.if-key-nodes.true, c.nodes.ensures.all)))

pub returns-then-key-newest : goal.returns-then-key-newest
returns-then-key-newest c =
    let entries = c.args.arena.now.entries in
    sym (sought_nowhere c.args.key.node c.args.key.index entries none
    (λ at within is.
    let there = sought_there c.args.key.node c.args.key.index entries c.args.last.now c.args.self.now.by_node.keys at none c.requires.linked c.requires.gapless within is in
    omega (arith, there.0, c.if-key-newest.true, c.at-newest.ensures)))

-- what the node's list has so far behind
listed : (c : After-from_newest)
    → c.from_newest.result ≡ slice_get (list_of c.args.self.now.by_node.keys c.args.key.node) (entry c.args.last.now c.args.key.node - c.args.key.index)
listed c =
    c.from_newest.ensures
    ∙ ap (λ n. slice_get (list_of c.args.self.now.by_node.keys n) (c.at-newest.result - c.args.key.index)) c.from.ensures
    ∙ ap (λ n. slice_get (list_of c.args.self.now.by_node.keys c.args.key.node) (n - c.args.key.index)) c.at-newest.ensures

pub returns-in_err-place : goal.returns-in_err-place
returns-in_err-place c =
    let entries = c.args.arena.now.entries in
    let a = (goal.at.returns-in_err-place c).After-from_newest in
    c.from_residual.ensures
    ∙ sym (sought_nowhere c.args.key.node c.args.key.index entries none
    (λ at within is.
    let there = sought_there c.args.key.node c.args.key.index entries c.args.last.now c.args.self.now.by_node.keys at none c.requires.linked c.requires.gapless within is in
    none-some at (sym c.in_err-place.was ∙ listed a ∙ there.1)))

-- what was found is a place
within : (c : In_ok-place) → c.in_ok-place.place < length c.args.arena.now.entries
within c =
    let keys = c.args.self.now.by_node.keys in
    let inside = listed_within keys c.args.key.node (entry c.args.last.now c.args.key.node - c.args.key.index) c.in_ok-place.place
    (sym (listed (goal.at.In_ok-place c).After-from_newest) ∙ c.in_ok-place.was) in
    omega (
      arith,
      inside,
      ap length c.requires.linked,
      length-map (map interval_of c.args.arena.now.entries) (λ (i : IntervalRecord). i.node),
      length-map c.args.arena.now.entries interval_of,
    )

pub interval-requires : goal.interval-requires
interval-requires c = within (goal.at.interval-requires c).In_ok-place

pub returns-then-is_at : goal.returns-then-is_at
returns-then-is_at c =
    sym (sought_found c.args.key.node c.args.key.index c.args.arena.now.entries c.requires.ascending c.in_ok-place.place none
    (within (goal.at.returns-then-is_at c).In_ok-place)
    (ap (is_interval_at c.args.key.node c.args.key.index) (sym (c.interval.ensures none)) ∙ sym c.is_at.ensures ∙ c.if-is_at.true))

pub returns-else-is_at : goal.returns-else-is_at
returns-else-is_at c =
    let test = is_at c.args.key.node c.args.key.index in
    let entries = c.args.arena.now.entries in
    let place = c.in_ok-place.place in
    let item = none in
    sym (sought_nowhere c.args.key.node c.args.key.index entries item
    (λ at inside is.
    let there = sought_there c.args.key.node c.args.key.index entries c.args.last.now c.args.self.now.by_node.keys at item c.requires.linked c.requires.gapless inside is in
    let same : at ≡ place = same_Some at place (sym there.1 ∙ sym (listed (goal.at.returns-else-is_at c).After-from_newest) ∙ c.in_ok-place.was) in
    true≢false (sym is ∙ ap (λ k. test (get_or entries k item)) same ∙
    ap (is_interval_at c.args.key.node c.args.key.index) (sym (c.interval.ensures none)) ∙ sym c.is_at.ensures ∙ c.if-is_at.false)))
