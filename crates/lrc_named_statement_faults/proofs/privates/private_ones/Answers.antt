-- The list grows by each private name.
use Rattle.std.proofs.Common.{[], map}
use Rattle.lrc_named_tree.specs.View.{named_of}
use Rattle.lrc_named_expression_faults.specs.View.{scope_of}
use Rattle.lrc_named_statement_faults.proofs.Growing.{piece_step_at}
use Rattle.lrc_named_statement_faults.proofs.Names.{private_pieced}
use Rattle.lrc_named_statement_faults.proofs.privates.private_ones.Goals as goal

pub loop-name-preserved : goal.loop-name-preserved
loop-name-preserved c =
    piece_step_at _ _ (private_pieced (scope_of c.args.scope.now)) c.args.names.now c.loop-name.name-index _ [] (map named_of c.loop-name.all.items)
    (map named_of c.push_private.new.all.items) c.loop-name-test.true c.loop-name.invariant c.in_ok-push_private.ensures
