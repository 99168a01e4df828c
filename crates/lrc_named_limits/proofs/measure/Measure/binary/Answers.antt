-- An operator and its sides.
use Rattle.std.proofs.Common.{◌≡◌, ◌+◌, min, refl, ap, ◌∙◌, arith}
use Rattle.lrc_named_limits.proofs.Counted.{binary_counted}
use Rattle.lrc_named_limits.proofs.measure.Measure.binary.Goals as goal

pub returns : goal.returns
returns c =
    let many : c.min.result ≡ min (1 + (c.args.left.operators + c.args.right.operators)) 257 =
    omega (arith, c.saturating_add.ensures, c.saturating_add-2.ensures, c.min.ensures) in
    λ l r a d. binary_counted l r c.args.operator c.args.left c.args.right _ c.around-one.result c.around-other.result c.groups_left.result c.groups_right.result
    c.groups_left.ensures c.groups_right.ensures c.around-one.ensures c.around-other.ensures many (c.min-2.ensures ∙ ap (λ n. min n 33) c.max.ensures) refl
    c.max-2.ensures a d
