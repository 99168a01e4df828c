use Rattle.std.proofs.Common.{◌<◌, [], false, length, get_or, arith}
use Rattle.std.proofs.lemmas.List.{get_or_default}
use Rattle.std.proofs.lemmas.List.Edits.{map_over_more}
use Rattle.lrc_exec.specs.declared.spot.Spot.{Spot}
use Rattle.lrc_orders_live.specs.Live.{forgot}
use Rattle.lrc_orders_live.proofs.forget.forget_all.Goals as goal

pub loop-spot-preserved : goal.loop-spot-preserved
loop-spot-preserved c =
    let none : Spot = record { me = 0; place = 0; privates = []; held = []; arrived = false; stopped = false } in
    let spots = c.loop-spot.spots in
    let i = c.loop-spot.spot-index in
    let within : i < length spots = omega (arith, c.loop-spot-test.true, c.loop-spot.auto.spots) in
    rw (c.forget_spot.ensures)
    (map_over_more (forgot c.args.table.now) c.args.spots.now spots i (get_or spots i none) c.loop-spot-test.true c.loop-spot.invariant
    (get_or_default spots i none (get_or spots i none) within))
