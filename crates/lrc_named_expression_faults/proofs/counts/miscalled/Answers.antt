-- The number of arguments is right, too great, or too small.
use Rattle.std.proofs.Common.{◌-◌, ◌+◌, Some, ap, ◌∙◌}
use Rattle.lrc_named_tree.specs.Ends.{last_of}
use Rattle.lrc_named_tree.specs.View.{expression_of}
use Rattle.lrc_named_expression_faults.proofs.Counting.{as_many_arguments, wrong_at_close_fitting, wrong_behind_fitting}
use Rattle.lrc_named_expression_faults.proofs.counts.miscalled.Goals as goal

pub returns-then-arguments-wanted : goal.returns-then-arguments-wanted
returns-then-arguments-wanted c = as_many_arguments c.args.arguments.now c.args.close c.args.wanted c.if-arguments-wanted.true

pub returns-then-arguments-fitting : goal.returns-then-arguments-fitting
returns-then-arguments-fitting c =
    ap (λ n. Some (n + 1)) (c.from.ensures ∙ c.last.ensures ∙ ap (λ x. last_of (expression_of x)) c.index-arguments-fitting.is)
    ∙ wrong_behind_fitting c.args.arguments.now c.args.close c.args.wanted c.max-fitting.result c.index-arguments-fitting.result c.max-fitting.ensures c.if-arguments-fitting.true

pub returns-else-arguments-fitting : goal.returns-else-arguments-fitting
returns-else-arguments-fitting c =
    ap (λ n. Some n) c.from-else-arguments-fitting.ensures
    ∙ wrong_at_close_fitting c.args.arguments.now c.args.close c.args.wanted c.max-fitting.result c.max-fitting.ensures c.if-arguments-wanted.false c.if-arguments-fitting.false
