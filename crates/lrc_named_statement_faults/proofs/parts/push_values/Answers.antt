-- The list grows by each value.
use Rattle.std.proofs.Common.{map}
use Rattle.lrc_named_statement_faults.specs.Parts.{part_seen}
use Rattle.lrc_named_statement_faults.proofs.Growing.{piece_step}
use Rattle.lrc_named_statement_faults.proofs.Rows.{values_pieced}
use Rattle.lrc_named_statement_faults.proofs.parts.push_values.Goals as goal

pub loop-value-preserved : goal.loop-value-preserved
loop-value-preserved c =
    piece_step _ _ values_pieced c.args.values.now c.loop-value.value-index c.value-item.result (map part_seen c.args.parts.now.items)
    (map part_seen c.loop-value.parts.items) (map part_seen c.push.new.parts.items) c.loop-value-test.true c.value-item.is c.loop-value.invariant c.in_ok-push.ensures
