-- One event more.
use Rattle.std.proofs.Common.{◌<◌, length, arith}
use Rattle.std.proofs.lemmas.Option.{slice_get-get_or}
use Rattle.lrc_races_witness.proofs.past.take_first.Goals as goal

pub loop-position-preserved : goal.loop-position-preserved
loop-position-preserved c =
    let n = c.loop-position.position in
    let within : n < length c.args.events.now = omega arith in
    (c.in_ok-take.ensures c.args.events.now n (record { is = slice_get-get_or c.args.events.now n _ within }) c.loop-position.invariant).0
