use Rattle.lrc_named_tree.specs.View.{expressions_of}
use Rattle.lrc_named_entries.specs.Entry.{last_behind}
use Rattle.lrc_named_entries.proofs.Growing.{last_more, last_there}
use Rattle.lrc_named_entries.proofs.entry.last_behind.Goals as goal

pub loop-size-preserved : goal.loop-size-preserved
loop-size-preserved c =
    last_more c.args.sizes.now c.loop-size.size-index c.size-item.result (last_behind c.args.before (expressions_of c.args.sizes.now)) c.loop-size.last
    c.last-last.result c.loop-size-test.true c.size-item.is c.loop-size.invariant c.last-last.ensures

pub returns : goal.returns
returns c =
    last_there c.args.sizes.now c.loop-size.size-index (last_behind c.args.before (expressions_of c.args.sizes.now)) c.loop-size.last
    c.loop-size-test.false c.loop-size.invariant
