-- The list grows by the names of each part.
use Rattle.std.proofs.Common.{[], map}
use Rattle.lrc_named_tree.specs.View.{named_of}
use Rattle.lrc_named_statement_faults.proofs.Growing.{piece_step}
use Rattle.lrc_named_statement_faults.proofs.Names.{set_names_pieced}
use Rattle.lrc_named_index_hint.proofs.set.names_set.Goals as goal

pub loop-part-preserved : goal.loop-part-preserved
loop-part-preserved c =
    piece_step _ _ set_names_pieced c.args.parts.now c.loop-part.part-index c.part-item.result [] (map named_of c.loop-part.names.items)
    (map named_of c.push_set.new.names.items) c.loop-part-test.true c.part-item.is c.loop-part.invariant c.in_ok-push_set.ensures
