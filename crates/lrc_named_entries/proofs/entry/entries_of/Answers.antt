use Rattle.std.proofs.Common.{[], map}
use Rattle.lrc_named_tree.specs.View.{declaration_of}
use Rattle.lrc_named_entries.specs.Entry.{entries_in}
use Rattle.lrc_named_entries.specs.View.{entry_seen}
use Rattle.lrc_named_entries.proofs.Growing.{pieces_more}
use Rattle.lrc_named_entries.proofs.entry.entries_of.Goals as goal

pub loop-declaration-preserved : goal.loop-declaration-preserved
loop-declaration-preserved c =
    pieces_more entries_in declaration_of c.args.declarations.now c.loop-declaration.declaration-index c.declaration-item.result []
    (map entry_seen c.loop-declaration.entries.items) (map entry_seen c.push_declared.new.entries.items) c.loop-declaration-test.true
    c.declaration-item.is c.loop-declaration.invariant c.in_ok-push_declared.ensures
