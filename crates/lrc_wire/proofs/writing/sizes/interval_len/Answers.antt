use Rattle.std.proofs.Common.{arith}
use Rattle.lrc_page.specs.declared.TheConstants.{MOST_PAGES}
use Rattle.lrc_wire.proofs.Along.{few_below}
use Rattle.lrc_wire.proofs.Lengths.{length_interval}
use Rattle.lrc_wire.proofs.writing.sizes.interval_len.Goals as goal

pub overflow_mul-result : goal.overflow_mul-result
overflow_mul-result c =
    let few = few_below (λ n. n) c.item.inside.pages c.item.invariant.ascending MOST_PAGES c.item.invariant.in_range in
    omega (arith, few, c.len.ensures.count)

pub overflow_add-result-2 : goal.overflow_add-result-2
overflow_add-result-2 c =
    let few = few_below (λ n. n) c.item.inside.pages c.item.invariant.ascending MOST_PAGES c.item.invariant.in_range in
    omega (arith, few, c.len.ensures.count, c.time_len.ensures.small)

pub returns-clause-exact : goal.returns-clause-exact
returns-clause-exact c =
    let exact = length_interval (record { node = c.item.inside.node; stamp = c.item.inside.stamp; pages = c.item.inside.pages }) in
    rw (← c.item.view_is) (omega (arith, exact, c.len.ensures.count, c.time_len.ensures.exact))

pub returns-clause-small : goal.returns-clause-small
returns-clause-small c =
    let few = few_below (λ n. n) c.item.inside.pages c.item.invariant.ascending MOST_PAGES c.item.invariant.in_range in
    omega (arith, few, c.len.ensures.count, c.time_len.ensures.small)
