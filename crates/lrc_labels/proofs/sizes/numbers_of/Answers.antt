use Rattle.lrc_labels.proofs.Rows.{one_is_size, one_more_kept}
use Rattle.lrc_labels.proofs.sizes.numbers_of.Goals as goal

pub size_of-requires : goal.size_of-requires
size_of-requires c = one_is_size (λ size. size.now) c.args.sizes.now c.loop-field.field-index _ c.loop-field-test.true c.requires

pub loop-field-preserved : goal.loop-field-preserved
loop-field-preserved c =
    one_more_kept (λ size. size.now) c.args.sizes.now c.loop-field.field-index _ c.loop-field-test.true c.size_of.result c.size_of.ensures
    c.loop-field.numbers.items _ c.loop-field.invariant c.in_ok-push.ensures.items
