-- The entry before the first one beyond is the last of its lane, or there is none.
use Rattle.std.proofs.Common.{◌-◌, get_or, arith}
use Rattle.std.proofs.lemmas.List.{get_or_default}
use Rattle.lrc_judge.specs.declared.lanes.Entry.{Entry}
use Rattle.lrc_judge.proofs.Searching.{lane_agrees, lane_differs, none_if_apart, last_of_lane}
use Rattle.lrc_judge.proofs.lanes.last_before.Goals as goal

abbrev nothing : Entry
nothing = record { lane = record { word = 0; value = 0; node = 0 }; position = 0 }

pub returns-then-ne : goal.returns-then-ne
returns-then-ne c =
    let entries = c.args.entries.now in
    let beyond = c.first_beyond_from-beyond.result in
    let x : Entry = get_or entries (beyond - 1) nothing in
    let bound = c.first_beyond_from-beyond.ensures.bound in
    none_if_apart entries c.args.order.now c.args.lane c.args.position beyond c.requires.in_order c.first_beyond_from-beyond.ensures.point
    (omega arith) bound x (get_or_default entries (beyond - 1) nothing x (omega arith)) (lane_differs x.lane c.args.lane c.if-ne.ensures)

pub returns : goal.returns
returns c =
    let entries = c.args.entries.now in
    let beyond = c.first_beyond_from-beyond.result in
    let x : Entry = get_or entries (beyond - 1) nothing in
    let bound = c.first_beyond_from-beyond.ensures.bound in
    last_of_lane entries c.args.order.now c.args.lane c.args.position beyond c.requires.in_order c.first_beyond_from-beyond.ensures.point
    (omega arith) bound x (get_or_default entries (beyond - 1) nothing x (omega arith)) (lane_agrees x.lane c.args.lane c.if-ne.ensures)
