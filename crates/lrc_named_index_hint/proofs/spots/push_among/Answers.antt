-- The list grows by each index.
use Rattle.std.proofs.Common.{map}
use Rattle.lrc_named_tree.specs.View.{named_of}
use Rattle.lrc_named_index_hint.specs.Spots.{spot_seen}
use Rattle.lrc_named_index_hint.proofs.Growing.{among_step}
use Rattle.lrc_named_index_hint.proofs.spots.push_among.Goals as goal

pub loop-number-preserved : goal.loop-number-preserved
loop-number-preserved c =
    among_step c.args.at (named_of c.args.name) c.args.indices.now c.loop-number.number c.index-indices-number.result (map spot_seen c.args.spots.now.items)
    (map spot_seen c.loop-number.spots.items) (map spot_seen c.push_one.new.spots.items) c.loop-number-test.true c.index-indices-number.is
    c.loop-number.invariant c.in_ok-push_one.ensures
