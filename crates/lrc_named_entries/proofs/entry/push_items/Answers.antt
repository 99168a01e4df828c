use Rattle.std.proofs.Common.{map}
use Rattle.lrc_named_tree.specs.View.{place_of}
use Rattle.lrc_named_entries.specs.Entry.{item_entry}
use Rattle.lrc_named_entries.specs.View.{entry_seen}
use Rattle.lrc_named_entries.proofs.Growing.{mapped_more}
use Rattle.lrc_named_entries.proofs.entry.push_items.Goals as goal

pub loop-item-preserved : goal.loop-item-preserved
loop-item-preserved c =
    mapped_more (item_entry c.args.sort) place_of c.args.items.now c.loop-item.item-index c.item-item.result (map entry_seen c.args.entries.now.items)
    (map entry_seen c.loop-item.entries.items) (map entry_seen c.push_item.new.entries.items) c.loop-item-test.true c.item-item.is
    c.loop-item.invariant c.in_ok-push_item.ensures
