use Rattle.std.proofs.Common.{◌≤◌, length, arith}
use Rattle.lrc_page.specs.declared.TheConstants.{MOST_PAGE_WORDS}
use Rattle.lrc_wire.proofs.Along.{few_below}
use Rattle.lrc_wire.proofs.Lengths.{length_part}
use Rattle.lrc_wire.proofs.writing.sizes.part_len.Goals as goal

pub overflow_mul-result : goal.overflow_mul-result
overflow_mul-result c =
    let few : length c.item.inside.changes ≤ MOST_PAGE_WORDS =
    few_below (λ x. x.offset) c.item.inside.changes c.item.invariant.ascending MOST_PAGE_WORDS c.item.invariant.in_range in
    omega (arith, few, c.count_runs.ensures.few)

pub overflow_add-result : goal.overflow_add-result
overflow_add-result c =
    let few : length c.item.inside.changes ≤ MOST_PAGE_WORDS =
    few_below (λ x. x.offset) c.item.inside.changes c.item.invariant.ascending MOST_PAGE_WORDS c.item.invariant.in_range in
    omega (arith, few, c.count_runs.ensures.few)

pub overflow_mul-result-2 : goal.overflow_mul-result-2
overflow_mul-result-2 c =
    let few : length c.item.inside.changes ≤ MOST_PAGE_WORDS =
    few_below (λ x. x.offset) c.item.inside.changes c.item.invariant.ascending MOST_PAGE_WORDS c.item.invariant.in_range in
    omega (arith, few, c.count_runs.ensures.few, c.len.ensures.count)

pub overflow_add-result-2 : goal.overflow_add-result-2
overflow_add-result-2 c =
    let few : length c.item.inside.changes ≤ MOST_PAGE_WORDS =
    few_below (λ x. x.offset) c.item.inside.changes c.item.invariant.ascending MOST_PAGE_WORDS c.item.invariant.in_range in
    omega (arith, few, c.count_runs.ensures.few, c.len.ensures.count)

pub returns-clause-exact : goal.returns-clause-exact
returns-clause-exact c =
    let exact = length_part (record { index = c.item.inside.index; changes = c.item.inside.changes }) in
    rw (← c.item.view_is) (omega (arith, exact, c.len.ensures.count, c.count_runs.ensures.exact))

pub returns-clause-small : goal.returns-clause-small
returns-clause-small c =
    let few : length c.item.inside.changes ≤ MOST_PAGE_WORDS =
    few_below (λ x. x.offset) c.item.inside.changes c.item.invariant.ascending MOST_PAGE_WORDS c.item.invariant.in_range in
    omega (arith, few, c.len.ensures.count, c.count_runs.ensures.few)
