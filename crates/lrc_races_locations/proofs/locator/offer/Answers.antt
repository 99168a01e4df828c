-- What is met is not new.
use Rattle.std.proofs.Common.{refl, sym}
use Rattle.lrc_races_detector.specs.Grouping.{sides_of}
use Rattle.lrc_races_detector.proofs.Grouping.{sides_is}
use Rattle.lrc_races_locations.specs.Finding.{met, fresh}
use Rattle.lrc_races_locations.proofs.Offering.{met_key, new_key, key_added, pair_in_front}
use Rattle.lrc_races_locations.proofs.locator.offer.Goals as goal

pub returns-in-Some : goal.returns-in-Some
returns-in-Some c =
    let pair = c.args.pair in
    let sides = sides_is c.side_of.result c.side_of-2.result pair c.side_of.ensures c.side_of-2.ensures in
    met (met_key c.args.sides.now.keys _ (sides_of pair) sides (sym c.in-Some.ensures.found)) refl refl

pub returns : goal.returns
returns c =
    let pair = c.args.pair in
    let keys = c.args.sides.now.keys in
    let sides = sides_is c.side_of.result c.side_of-2.result pair c.side_of.ensures c.side_of-2.ensures in
    fresh (new_key keys _ (sides_of pair) sides (sym c.in_default.ensures.found))
    (key_added keys _ _ (sides_of pair) sides (sym c.in_default.ensures.found) c.in_ok-insert-2.ensures.keys)
    (pair_in_front c.args.found.now.items _ pair c.in_ok-insert.ensures.items)
