use Rattle.std.proofs.Common.{arith}
use Rattle.lrc_table.proofs.Tables.{sound-fresh}
use Rattle.lrc_table.proofs.table.PageTable.new.Goals as goal

pub invariant_of-result : goal.invariant_of-result
invariant_of-result c =
    sound-fresh c.args.size c.loop.counter c.loop.slots.items c.empty.result c.loop.invariant
    (omega (arith, c.loop.auto.counter-end, c.pages_of-pages.ensures.few)) c.empty.ensures
