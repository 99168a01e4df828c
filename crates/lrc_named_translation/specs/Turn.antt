-- `and` and `or`, at once and in turn.
use Rattle.lrc_program.specs.declared.Operator.TheVariants.{Add, Multiply, Equal}
use Rattle.lrc_named_tree.specs.Tree as tree
use Rattle.lrc_named_tree.specs.View.{named_of, expression_of, expressions_of}
use Rattle.lrc_named_core.specs.Tree.{Private, Expression, number, private, binary, Origin, Block, assign, if_else, empty, next, only, behind}
use Rattle.lrc_named_translation.specs.declared.parts.Kind.{Kind}
use Rattle.lrc_named_translation.specs.declared.parts.Kind.TheVariants.{Both, Either}
use Rattle.lrc_named_translation.specs.declared.parts.Element as code_element
use Rattle.lrc_named_translation.specs.declared.parts.Junction as code_junction
use Rattle.lrc_named_translation.specs.Made.{truth}

-- the code's names with indices, and its `and` and `or`, as the definitions see them
abbrev pub element_of : code_element.Element → tree.Expression
element_of e = tree.element (named_of e.name) (expressions_of e.indices.now) e.last

abbrev pub joined_by : Kind → tree.Expression → tree.Expression → tree.Expression
joined_by Both left right = tree.both left right
joined_by Either left right = tree.either left right

abbrev pub junction_of : code_junction.Junction → tree.Expression
junction_of j = joined_by j.kind (expression_of j.left.now) (expression_of j.right.now)

-- both sides in one expression
abbrev pub at_once : Kind → Expression → Expression → Expression
at_once Both p q = binary (truth p) Multiply (truth q)
at_once Either p q = truth (binary (truth p) Add (truth q))

-- the condition under which the right side is computed, where this name holds whether the left one holds
abbrev pub condition : Kind → Private → Expression
condition Both left = private left
condition Either left = binary (private left) Equal (number 0)

-- the right side, with what comes before it, is computed only where the left one does not decide
abbrev pub in_turn : Origin → Kind → (left whole : Private) → Expression → Block → Expression → Block
in_turn at kind left whole p inside q =
    next (assign at left (truth p)) (only (if_else at (condition kind left) (behind inside (only (assign at whole (truth q)))) empty))
