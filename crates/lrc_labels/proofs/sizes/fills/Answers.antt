use Rattle.std.proofs.Common.{◌≡◌, ◌≤◌, ◌%◌, arith}
use Rattle.lrc_labels.proofs.Rows.{goes_on, one_is_size, positive, stops}
use Rattle.lrc_labels.proofs.sizes.fills.Goals as goal

pub size_of-size-requires : goal.size_of-size-requires
size_of-size-requires c = one_is_size (λ size. size.now) c.args.sizes.now c.loop-field.field-index _ c.loop-field-test.true c.requires

pub nonzero_rem-rows : goal.nonzero_rem-rows
nonzero_rem-rows c =
    positive (λ size. size.now) c.args.sizes.now c.loop-field.field-index _ c.loop-field-test.true c.size_of-size.result c.size_of-size.ensures c.requires

pub returns-then-rows-size-ne0 : goal.returns-then-rows-size-ne0
returns-then-rows-size-ne0 c =
    let some : 1 ≤ c.loop-field.rows % c.size_of-size.result = omega (arith, c.if-rows-size-ne0.true) in
    stops (λ size. size.now) c.args.sizes.now c.loop-field.field-index _ c.loop-field-test.true c.size_of-size.result c.size_of-size.ensures
    c.loop-field.rows c.args.count c.loop-field.invariant some

pub nonzero_div-rows : goal.nonzero_div-rows
nonzero_div-rows c =
    positive (λ size. size.now) c.args.sizes.now c.loop-field.field-index _ c.loop-field-test.true c.size_of-size.result c.size_of-size.ensures c.requires

pub loop-field-preserved : goal.loop-field-preserved
loop-field-preserved c =
    let none : c.loop-field.rows % c.size_of-size.result ≡ 0 = omega (arith, c.if-rows-size-ne0.false) in
    goes_on (λ size. size.now) c.args.sizes.now c.loop-field.field-index _ c.loop-field-test.true c.size_of-size.result c.size_of-size.ensures
    c.loop-field.rows c.args.count c.requires c.loop-field.invariant none
