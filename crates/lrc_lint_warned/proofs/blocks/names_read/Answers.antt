use Rattle.std.proofs.Common.{◌∙◌, ℕ, ap, sym, map, take_all, Option, ◌||◌, get_or, List}
use Rattle.std.specs.Prelude.{false}
use Rattle.std.specs.List.{list_any}
use Rattle.lrc_program.specs.Statements.{expression_of}
use Rattle.lrc_lint_warned.specs.Constant.{is_value}
use Rattle.lrc_lint_warned.specs.Names.{is_name}
use Rattle.lrc_lint_warned.proofs.Lists.{any_more, unmarked}
use Rattle.lrc_lint_warned.proofs.blocks.names_read.Goals as goal

pub loop-n-init : goal.loop-n-init
loop-n-init c = λ k. unmarked 256 k

pub loop-n-preserved : goal.loop-n-preserved
loop-n-preserved c = λ k.
    c.mark.ensures k
    ∙ ap (λ (o : Option ℕ). get_or c.loop-n.marked k false || is_value o k) c.name_of.ensures
    ∙ ap (λ b. b || is_name k (expression_of c.n-item.result.now)) (c.loop-n.invariant k)
    ∙ sym (any_more (λ n. expression_of n.now) (is_name k) c.args.nodes.now c.loop-n.n-index c.n-item.result c.loop-n-test.true c.n-item.is)

pub returns : goal.returns
returns c = λ k.
    c.loop-n.invariant k
    ∙ ap (λ (l : List _). list_any (is_name k) (map (λ n. expression_of n.now) l)) (take_all c.loop-n.n-index c.args.nodes.now c.loop-n-test.false)
