-- The parts of statements in which names stand, in the order of the text.
use Rattle.std.specs.Prelude.{List, [], ◌∷◌, ◌++◌}
use Rattle.lrc_named_tree.specs.declared.tree.Arm as code_arm
use Rattle.lrc_named_tree.specs.View.{block_of, expression_of, named_of, place_of}
use Rattle.lrc_named_tree.specs.Tree.{Named, Expression, Expressions, none, more, Place, Statement, Block, Arms, empty, next, no_arm, arm}
use Rattle.lrc_named_tree.specs.Tree.{assign, acquire, release, with_do, barrier, print, assert, if_else, while_do, for_do}
use Rattle.lrc_named_statement_faults.specs.declared.parts.Part as code_part
use Rattle.lrc_named_statement_faults.specs.declared.parts.Part.TheVariants.{Target, Lock, Counter, Value}

-- a place that is set, a lock behind `acquire`, `release` or `with`, a name behind `for`, or an expression
pub data Part : Type 0 where
  target : Place → Part
  lock_place : Place → Part
  counter : Named → Part
  value : Expression → Part

abbrev pub part_seen : code_part.Part → Part
part_seen (Target p) = target (place_of p.now)
part_seen (Lock p) = lock_place (place_of p.now)
part_seen (Counter name) = counter (named_of name)
part_seen (Value e) = value (expression_of e.now)

abbrev pub parts_of_values : Expressions → List Part
parts_of_values none = []
parts_of_values (more e others) = value e ∷ parts_of_values others

-- of a statement, of the statements of a block, and of each `else if`
abbrev mutual
  pub parts_of : Statement → List Part
  parts_of (assign p update e) = target p ∷ value e ∷ []
  parts_of (acquire at p) = lock_place p ∷ []
  parts_of (release at p) = lock_place p ∷ []
  parts_of (with_do at p inside close) = lock_place p ∷ parts_of_block inside
  parts_of (barrier at) = []
  parts_of (print at values) = parts_of_values values
  parts_of (assert at e) = value e ∷ []
  parts_of (if_else at e then others otherwise) = value e ∷ (parts_of_block then ++ (parts_of_arms others ++ parts_of_block otherwise))
  parts_of (while_do at e inside) = value e ∷ parts_of_block inside
  parts_of (for_do at named first end inside) = counter named ∷ value first ∷ value end ∷ parts_of_block inside

  pub parts_of_block : Block → List Part
  parts_of_block empty = []
  parts_of_block (next first others) = parts_of first ++ parts_of_block others

  pub parts_of_arms : Arms → List Part
  parts_of_arms no_arm = []
  parts_of_arms (arm at e inside others) = value e ∷ (parts_of_block inside ++ parts_of_arms others)

-- each `else if` of the code
abbrev pub with_arm : code_arm.Arm → Arms → Arms
with_arm a others = arm a.at (expression_of a.condition) (block_of a.block.items) others

abbrev pub arms_of : List code_arm.Arm → Arms
arms_of [] = no_arm
arms_of (first ∷ others) = with_arm first (arms_of others)
