use Rattle.std.proofs.Common.{◌∙◌, ℕ, ap, sym, map, take_all, Option, ◌||◌, get_or, List}
use Rattle.std.specs.Prelude.{false}
use Rattle.std.specs.List.{list_any}
use Rattle.lrc_program.specs.Statements.{statement_of}
use Rattle.lrc_lint_warned.specs.Constant.{is_value}
use Rattle.lrc_lint_warned.specs.Names.{sets}
use Rattle.lrc_lint_warned.proofs.Lists.{any_more, unmarked}
use Rattle.lrc_lint_warned.proofs.blocks.names_set.Goals as goal

pub loop-s-init : goal.loop-s-init
loop-s-init c = λ k. unmarked 256 k

pub loop-s-preserved : goal.loop-s-preserved
loop-s-preserved c = λ k.
    c.mark.ensures k
    ∙ ap (λ (o : Option ℕ). get_or c.loop-s.marked k false || is_value o k) c.set_by.ensures
    ∙ ap (λ b. b || sets k (statement_of c.s-item.result.now)) (c.loop-s.invariant k)
    ∙ sym (any_more (λ s. statement_of s.now) (sets k) c.args.statements.now c.loop-s.s-index c.s-item.result c.loop-s-test.true c.s-item.is)

pub returns : goal.returns
returns c = λ k.
    c.loop-s.invariant k
    ∙ ap (λ (l : List _). list_any (sets k) (map (λ s. statement_of s.now) l)) (take_all c.loop-s.s-index c.args.statements.now c.loop-s-test.false)
