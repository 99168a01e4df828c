use Rattle.std.proofs.Common.{◌∙◌, ap, map, Bool, List}
use Rattle.lrc_program.specs.Statements.{Statement as Tree, expression_of, statement_of}
use Rattle.lrc_lint_warned.specs.declared.found.Kind.TheVariants.{LearnsNothing}
use Rattle.lrc_lint_warned.specs.Blocks.{learns_nothing}
use Rattle.lrc_lint_warned.specs.Operations.{kind_if}
use Rattle.lrc_lint_warned.proofs.blocks.learns_of.Goals as goal

pub returns : goal.returns
returns c =
    c.kind_if.ensures
    ∙ ap (λ (b : Bool). kind_if b LearnsNothing)
    (c.in_ok-learns.ensures
    ∙ ap (λ (l : List Tree). learns_nothing (expression_of c.args.condition.now) l)
    (ap (map (λ s. statement_of s.now)) c.deref.ensures.value ∙ c.in_ok-inside.ensures))
