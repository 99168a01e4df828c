-- The places with that of one name more.
use Rattle.std.proofs.Common.{arith}
use Rattle.lrc_named_expression_faults.proofs.Spelling.{one_more}
use Rattle.lrc_named_expression_faults.proofs.spelled.Spelled.of.Goals as goal

pub loop-i-preserved : goal.loop-i-preserved
loop-i-preserved c =
    one_more c.args.names.now c.loop-i.i _ c.loop-i.places c.insert.new.self (omega (arith, c.loop-i-test.true))
    (omega (arith, c.loop-i-test.true, c.loop-i.auto.i)) c.loop-i.invariant c.in_ok-insert.ensures.updates.0
