-- The number of indices is right, none fits, or the last that fits stands before.
use Rattle.std.proofs.Common.{◌≡◌, ◌-◌, ◌+◌, suc, min, Some, length, ap, ◌∙◌, arith}
use Rattle.lrc_named_tree.specs.Ends.{last_of}
use Rattle.lrc_named_tree.specs.View.{expression_of}
use Rattle.lrc_named_expression_faults.proofs.Counting.{as_many_indices, last_index_fits, no_index_fits}
use Rattle.lrc_named_expression_faults.proofs.counts.miscounted.Goals as goal

pub returns-then-indices-sizes : goal.returns-then-indices-sizes
returns-then-indices-sizes c = as_many_indices c.args.indices.now c.args.sizes.now c.args.before c.if-indices-sizes.true

pub returns-then-fitting-eq0 : goal.returns-then-fitting-eq0
returns-then-fitting-eq0 c =
    let none : min (length c.args.indices.now) (length c.args.sizes.now) ≡ 0 = omega (arith, c.min-fitting.ensures, c.if-fitting-eq0.true) in
    ap (λ n. Some (n + 1)) c.from.ensures ∙ no_index_fits c.args.indices.now c.args.sizes.now c.args.before c.if-indices-sizes.false none

pub returns-else-fitting-eq0 : goal.returns-else-fitting-eq0
returns-else-fitting-eq0 c =
    let some : min (length c.args.indices.now) (length c.args.sizes.now) ≡ suc (c.min-fitting.result - 1) = omega (arith, c.min-fitting.ensures, c.if-fitting-eq0.false) in
    ap (λ n. Some (n + 2)) (c.from-else-fitting-eq0.ensures ∙ c.last.ensures ∙ ap (λ x. last_of (expression_of x)) c.index-indices-fitting.is)
    ∙ last_index_fits c.args.indices.now c.args.sizes.now c.args.before (c.min-fitting.result - 1) c.index-indices-fitting.result c.if-indices-sizes.false some
