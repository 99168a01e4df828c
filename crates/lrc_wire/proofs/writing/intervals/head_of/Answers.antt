use Rattle.std.proofs.Common.{arith}
use Rattle.lrc_page.specs.declared.TheConstants.{MOST_PAGES}
use Rattle.lrc_wire.proofs.Along.{few_below}
use Rattle.lrc_wire.proofs.writing.intervals.head_of.Goals as goal

pub overflow_cast-count : goal.overflow_cast-count
overflow_cast-count c =
    let few = few_below (λ n. n) c.item.inside.pages c.len-count.ensures.rising MOST_PAGES c.len-count.ensures.in_range in
    omega (arith, few, c.len-count.ensures.count)
