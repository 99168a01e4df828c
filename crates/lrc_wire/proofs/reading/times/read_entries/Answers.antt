use Rattle.std.proofs.Common.{◌<◌, ◌*◌, length, arith}
use Rattle.lrc_wire.specs.Reading.{entries_at}
use Rattle.lrc_wire.proofs.Entries.{entries_short}
use Rattle.lrc_wire.proofs.reading.times.read_entries.Goals as goal

pub returns-then-bytes-from : goal.returns-then-bytes-from
unfolding entries_at
returns-then-bytes-from c =
    let few : length c.args.bytes.now.now < 4 * length c.args.time.now = omega (arith, c.if-bytes-from.true, c.from.ensures, c.nodes.ensures.all) in
    λ _. entries_short (length c.args.time.now) 0 c.args.bytes.now.now few
