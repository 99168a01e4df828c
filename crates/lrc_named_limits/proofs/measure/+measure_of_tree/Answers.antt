-- Both sides are counted.
use Rattle.std.proofs.Common.{sym, subst}
use Rattle.lrc_named_core.specs.Shape.{tree_of}
use Rattle.lrc_named_limits.specs.Measure.{IsMeasure}
use Rattle.lrc_named_limits.proofs.measure.+measure_of_tree.Goals as goal

pub returns-in-Binary : goal.returns-in-Binary
returns-in-Binary t c =
    let one = subst (λ x. IsMeasure (tree_of x) c.measure_of_tree-one.result) c.deref.ensures c.measure_of_tree-one.ensures in
    let other = subst (λ x. IsMeasure (tree_of x) c.measure_of_tree-other.result) c.deref-in-Binary.ensures c.measure_of_tree-other.ensures in
    subst (λ x. IsMeasure (tree_of x) c.binary.result) (sym c.in-Binary.is) (c.binary.ensures _ _ one other)
