use Rattle.lrc_race.proofs.Found.{lanes-add, reads-listed, writes-listed}
use Rattle.lrc_race.proofs.detector.TracePair.add_lanes.Goals as goal

pub add_races-requires-clause-first : goal.add_races-requires-clause-first
add_races-requires-clause-first c = rw c.deref.ensures.value (writes-listed c.args.self.now.a.now c.args.first.now c.requires.first)

pub add_races-requires-clause-second : goal.add_races-requires-clause-second
add_races-requires-clause-second c = rw c.deref-2.ensures.value (writes-listed c.args.self.now.b.now c.args.second.now c.requires.second)

pub add_races-requires-2-clause-first : goal.add_races-requires-2-clause-first
add_races-requires-2-clause-first c = rw c.deref-3.ensures.value (reads-listed c.args.self.now.a.now c.args.first.now c.requires.first)

pub add_races-requires-2-clause-second : goal.add_races-requires-2-clause-second
add_races-requires-2-clause-second c = rw c.deref-4.ensures.value (writes-listed c.args.self.now.b.now c.args.second.now c.requires.second)

pub add_races-requires-3-clause-first : goal.add_races-requires-3-clause-first
add_races-requires-3-clause-first c = rw c.deref-5.ensures.value (writes-listed c.args.self.now.a.now c.args.first.now c.requires.first)

pub add_races-requires-3-clause-second : goal.add_races-requires-3-clause-second
add_races-requires-3-clause-second c = rw c.deref-6.ensures.value (reads-listed c.args.self.now.b.now c.args.second.now c.requires.second)

pub returns : goal.returns
returns c =
    lanes-add c.args.self.now.a.now c.args.first.now c.args.self.now.b.now c.args.second.now c.args.races.now.items c.add_races.new.races.items
    c.add_races-2.new.races.items c.add_races-3.new.races.items
    (rw (c.deref.ensures.value, c.deref-2.ensures.value) at c.in_ok-add_races.ensures)
    (rw (c.deref-3.ensures.value, c.deref-4.ensures.value) at c.in_ok-add_races-2.ensures)
    (rw (c.deref-5.ensures.value, c.deref-6.ensures.value) at c.in_ok-add_races-3.ensures)
