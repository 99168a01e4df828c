use Rattle.std.proofs.Common.{[], map}
use Rattle.lrc_named_tree.specs.View.{declaration_of, named_of}
use Rattle.lrc_named_entries.specs.Entry.{parameters_in}
use Rattle.lrc_named_entries.proofs.Growing.{pieces_more}
use Rattle.lrc_named_entries.proofs.around.parameters_around.Goals as goal

pub loop-declaration-preserved : goal.loop-declaration-preserved
loop-declaration-preserved c =
    pieces_more (parameters_in c.args.at) declaration_of c.args.declarations.now c.loop-declaration.declaration-index c.declaration-item.result []
    (map named_of c.loop-declaration.names.items) (map named_of c.push_parameters.new.names.items) c.loop-declaration-test.true
    c.declaration-item.is c.loop-declaration.invariant c.in_ok-push_parameters.ensures
