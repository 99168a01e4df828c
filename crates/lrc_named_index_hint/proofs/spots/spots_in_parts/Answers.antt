-- The list grows by the indices of each part.
use Rattle.std.proofs.Common.{[], map}
use Rattle.lrc_named_statement_faults.proofs.Growing.{piece_step}
use Rattle.lrc_named_index_hint.specs.Spots.{spot_seen}
use Rattle.lrc_named_index_hint.proofs.Growing.{parts_pieced}
use Rattle.lrc_named_index_hint.proofs.spots.spots_in_parts.Goals as goal

pub loop-part-preserved : goal.loop-part-preserved
loop-part-preserved c =
    piece_step _ _ (parts_pieced c.args.at) c.args.parts.now c.loop-part.part-index c.part-item.result [] (map spot_seen c.loop-part.spots.items)
    (map spot_seen c.push_part.new.spots.items) c.loop-part-test.true c.part-item.is c.loop-part.invariant c.in_ok-push_part.ensures
