use Rattle.std.proofs.lemmas.Result.{on_ok_weaker}
use Rattle.lrc_race.proofs.Parts.{IsOfWord, part-listed, parts-race}
use Rattle.lrc_race.proofs.detector.TracePair.add_races.Goals as goal

pub add_races_along-requires-clause-first : goal.add_races_along-requires-clause-first
add_races_along-requires-clause-first c =
    part-listed c.args.self.now.a.now c.args.xs.now c.places_near-near.result.now (IsOfWord c.args.ys.now) c.requires.first c.places_near-near.ensures

pub add_races_along-requires-clause-second : goal.add_races_along-requires-clause-second
add_races_along-requires-clause-second c =
    part-listed c.args.self.now.b.now c.args.ys.now c.places_near-others.result.now (IsOfWord c.places_near-near.result.now) c.requires.second
    c.places_near-others.ensures

pub returns : goal.returns
returns c =
    on_ok_weaker c.add_races_along.result
    (parts-race c.args.self.now.a.now c.args.xs.now c.places_near-near.result.now c.args.self.now.b.now c.args.ys.now
    c.places_near-others.result.now c.args.races.now.items c.add_races_along.new.races.items c.places_near-near.ensures
    c.places_near-others.ensures)
    c.add_races_along.ensures
