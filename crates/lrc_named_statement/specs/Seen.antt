-- The parser's statements as the definitions see them, without where they lie in memory.
use Rattle.std.specs.Prelude.{List, [], ◌∷◌, map, reverse, Option, Result}
use Rattle.lrc_lang.specs.declared.fault.FaultKind.{FaultKind}
use Rattle.lrc_lang.specs.Parser.Seen.{GivesNew}
use Rattle.lrc_named_tree.specs.declared.tree.Arm as code_arm
use Rattle.lrc_named_tree.specs.Tree.{Block, Arms}
use Rattle.lrc_named_tree.specs.View.{named_of, place_of, update_of, expression_of, expressions_of, statement_of, block_of}
use Rattle.lrc_named_expression.specs.Partial.{Partial}
use Rattle.lrc_named_expression.specs.Seen.{partial_seen}
use Rattle.lrc_named_statement.specs.declared.body.Target as code_target
use Rattle.lrc_named_statement.specs.declared.body.Target.TheVariants as code_targets
use Rattle.lrc_named_statement.specs.declared.body.Branch as code_branch
use Rattle.lrc_named_statement.specs.declared.body.Purpose as code_purpose
use Rattle.lrc_named_statement.specs.declared.body.Purpose.TheVariants as code_purposes
use Rattle.lrc_named_statement.specs.declared.body.Spot as code_spot
use Rattle.lrc_named_statement.specs.declared.body.Spot.TheVariants as code_spots
use Rattle.lrc_named_statement.specs.declared.body.Owner as code_owner
use Rattle.lrc_named_statement.specs.declared.body.Owner.TheVariants as code_owners
use Rattle.lrc_named_statement.specs.declared.body.Around as code_around
use Rattle.lrc_named_statement.specs.declared.body.Body as code_body
use Rattle.lrc_named_statement.specs.Body.{Target, assigned, acquired, released, guarding, Branch}
use Rattle.lrc_named_statement.specs.Body.{Purpose, index_of, given, printed, asserted, if_condition, arm_condition, while_condition, for_first, for_end}
use Rattle.lrc_named_statement.specs.Body.{Spot, at_statement, before_place, after_place, in_expression, before_end, before_name, before_in, after_branch}
use Rattle.lrc_named_statement.specs.Body.{after_else, Owner, then_of, arm_of, else_of, guarded, while_of, for_of, Around, Body}

abbrev pub target_seen : code_target.Target → Target
target_seen code_targets.Assigned = assigned
target_seen (code_targets.Acquired first) = acquired first
target_seen (code_targets.Released first) = released first
target_seen (code_targets.Guarding first) = guarding first

-- each `else if` of the code
abbrev pub arms_of : List code_arm.Arm → Arms
arms_of [] = Arms.no_arm
arms_of (first ∷ others) = Arms.arm first.at (expression_of first.condition) (block_of first.block.items) (arms_of others)

abbrev pub branch_seen : code_branch.Branch → Branch
branch_seen b = record { first = b.first; condition = expression_of b.condition; then = block_of b.then.items; arms = arms_of b.arms.items }

abbrev pub purpose_seen : code_purpose.Purpose → Purpose
purpose_seen (code_purposes.Index target name others) = index_of (target_seen target) (named_of name) (expressions_of others.items)
purpose_seen (code_purposes.Given place update) = given (place_of place) (update_of update)
purpose_seen (code_purposes.Printed first others) = printed first (expressions_of others.items)
purpose_seen (code_purposes.Asserted first) = asserted first
purpose_seen (code_purposes.IfCondition first) = if_condition first
purpose_seen (code_purposes.ArmCondition branch first) = arm_condition (branch_seen branch) first
purpose_seen (code_purposes.WhileCondition first) = while_condition first
purpose_seen (code_purposes.ForFirst first name) = for_first first (named_of name)
purpose_seen (code_purposes.ForEnd first name from) = for_end first (named_of name) (expression_of from)

-- with the expression that has come so far
abbrev pub spot_seen : code_spot.Spot → Partial → Spot
spot_seen code_spots.AtStatement x = at_statement
spot_seen (code_spots.BeforePlace target) x = before_place (target_seen target)
spot_seen (code_spots.AfterPlace target name indices) x = after_place (target_seen target) (named_of name) (expressions_of indices.items)
spot_seen (code_spots.InExpression purpose) x = in_expression (purpose_seen purpose) x
spot_seen (code_spots.BeforeEnd s) x = before_end (statement_of s)
spot_seen (code_spots.BeforeName first) x = before_name first
spot_seen (code_spots.BeforeIn first name) x = before_in first (named_of name)
spot_seen (code_spots.AfterBranch branch) x = after_branch (branch_seen branch)
spot_seen (code_spots.AfterElse branch) x = after_else (branch_seen branch)

abbrev pub owner_seen : code_owner.Owner → Owner
owner_seen (code_owners.Then first condition) = then_of first (expression_of condition)
owner_seen (code_owners.Arm branch first condition) = arm_of (branch_seen branch) first (expression_of condition)
owner_seen (code_owners.Else branch) = else_of (branch_seen branch)
owner_seen (code_owners.Guarded first place) = guarded first (place_of place)
owner_seen (code_owners.While first condition) = while_of first (expression_of condition)
owner_seen (code_owners.For first name from end) = for_of first (named_of name) (expression_of from) (expression_of end)

abbrev pub around_seen : code_around.Around → Around
around_seen a = record { before = block_of a.before.items; owner = owner_seen a.owner }

abbrev pub outer_seen : code_body.Body → List Around
outer_seen b = reverse (map around_seen b.outer.items)

abbrev pub before_seen : code_body.Body → Block
before_seen b = block_of b.before.items

abbrev pub body_seen : code_body.Body → Body
body_seen b = record { outer = outer_seen b; before = before_seen b; spot = spot_seen b.spot (partial_seen b.expression) }

-- what came out where the statements that have come, old, were to become what this step makes of them
abbrev pub Steps : Result (Unit {0}) FaultKind → code_body.Body → code_body.Body → (List Around → Block → Option Body) → Type 0
Steps result old new step = GivesNew result (body_seen new) (step (outer_seen old) (before_seen old))
