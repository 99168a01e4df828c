use Rattle.std.proofs.Common.{◌≡◌, ◌<◌, ◌≤◌, ◌+◌, ◌%◌, length, refl, arith, rules}
use Rattle.std.specs.Prelude.{slice_index_or}
use Rattle.lrc_world.proofs.Choosing.{picks_turn, picks_delivery}
use Rattle.lrc_world.proofs.world.event_at.Goals as goal

pub returns-in-Some : goal.returns-in-Some
returns-in-Some c =
    let place = c.args.number % (length c.args.ready.now + c.args.deliveries) in
    let within : place < length c.args.ready.now = search rules in
    let there : c.in-Some.node.now ≡ slice_index_or c.args.ready.now place c.in-Some.node.now = search rules in
    picks_turn c.args.number c.args.deliveries place c.in-Some.node.now c.args.ready.now refl within there

pub returns-in-None : goal.returns-in-None
returns-in-None c =
    let place = c.args.number % (length c.args.ready.now + c.args.deliveries) in
    let past : length c.args.ready.now ≤ place = search rules in
    picks_delivery c.args.number c.args.deliveries place c.args.ready.now refl past (omega (arith, c.if-count-eq0.false))
