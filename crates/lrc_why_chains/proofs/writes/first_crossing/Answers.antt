-- The first write that does not follow the one before it is the later of the two.
use Rattle.std.proofs.Common.{arith, sym}
use Rattle.lrc_why_chains.proofs.KnownWrites.{no_crossing, crossing_or_none}
use Rattle.lrc_why_chains.proofs.writes.first_crossing.Goals as goal

pub returns-then-not-is_before : goal.returns-then-not-is_before
returns-then-not-is_before c run position word are known =
    crossing_or_none run position word c.args.writes.now known c.args.order.now are c.loop-place.place c.first_beside.result (omega arith)
    (omega arith) c.loop-place.invariant (sym c.if-not-is_before.ensures) c.first_beside.ensures

pub returns : goal.returns
returns c run position word are known = no_crossing run position word c.args.writes.now known c.args.order.now are c.loop-place.place (omega arith)
    c.loop-place.invariant
