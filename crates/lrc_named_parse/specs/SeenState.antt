-- The parser's state as the definitions see it, without where it lies in memory.
use Rattle.std.specs.Prelude.{List, map, Option, Result}
use Rattle.lrc_lang.specs.declared.fault.FaultKind.{FaultKind}
use Rattle.lrc_lang.specs.Parser.Seen.{GivesNew}
use Rattle.lrc_named_tree.specs.Tree.{Declaration}
use Rattle.lrc_named_tree.specs.View.{named_of, place_of, expressions_of, declaration_of}
use Rattle.lrc_named_expression.specs.Partial.{Partial}
use Rattle.lrc_named_expression.specs.Seen.{partial_seen}
use Rattle.lrc_named_statement.specs.Body.{Body}
use Rattle.lrc_named_statement.specs.Seen.{body_seen}
use Rattle.lrc_named_parse.specs.declared.state.Shared as code_shared
use Rattle.lrc_named_parse.specs.declared.state.Shared.TheVariants as code_kinds
use Rattle.lrc_named_parse.specs.declared.state.Items as code_items
use Rattle.lrc_named_parse.specs.declared.state.Purpose as code_purpose
use Rattle.lrc_named_parse.specs.declared.state.Purpose.TheVariants as code_purposes
use Rattle.lrc_named_parse.specs.declared.state.Stage as code_stage
use Rattle.lrc_named_parse.specs.declared.state.Stage.TheVariants as code_stages
use Rattle.lrc_named_parse.specs.declared.state.State as code_state
use Rattle.lrc_named_parse.specs.State.{Shared, words, locks, Items, Purpose, value_of_constant, size_of, body_of, Stage, State}
use Rattle.lrc_named_parse.specs.State as state

abbrev pub shared_seen : code_shared.Shared → Shared
shared_seen code_kinds.Words = words
shared_seen code_kinds.Locks = locks

abbrev pub items_seen : code_items.Items → Items
items_seen i = record { first = i.first; are = shared_seen i.are; before = map place_of i.before.items }

abbrev pub purpose_seen : code_purpose.Purpose → Purpose
purpose_seen (code_purposes.Constant first name) = value_of_constant first (named_of name)
purpose_seen (code_purposes.Size items name sizes) = size_of (items_seen items) (named_of name) (expressions_of sizes.items)
purpose_seen (code_purposes.Body first name parameters) = body_of first (named_of name) (map named_of parameters.items)

-- with the expression and the statements that have come so far
abbrev pub stage_seen : code_stage.Stage → Partial → Body → Stage
stage_seen code_stages.First x b = state.at_first
stage_seen code_stages.AtDeclaration x b = state.at_declaration
stage_seen (code_stages.BeforeCount first) x b = state.before_count first
stage_seen (code_stages.AfterCount first n) x b = state.after_count first n
stage_seen (code_stages.BeforeConstant first) x b = state.before_constant first
stage_seen (code_stages.AfterConstant first name) x b = state.after_constant first (named_of name)
stage_seen (code_stages.BeforeItem items) x b = state.before_item (items_seen items)
stage_seen (code_stages.AfterItem items name sizes) x b = state.after_item (items_seen items) (named_of name) (expressions_of sizes.items)
stage_seen (code_stages.BeforeFunction first) x b = state.before_function first
stage_seen (code_stages.AfterFunction first name) x b = state.after_function first (named_of name)
stage_seen (code_stages.BeforeFirst first name) x b = state.before_first first (named_of name)
stage_seen (code_stages.BeforeParameter first name parameters) x b = state.before_parameter first (named_of name) (map named_of parameters.items)
stage_seen (code_stages.AfterParameter first name parameters) x b = state.after_parameter first (named_of name) (map named_of parameters.items)
stage_seen (code_stages.AfterParameters first name parameters) x b = state.after_parameters first (named_of name) (map named_of parameters.items)
stage_seen (code_stages.InExpression purpose) x b = state.in_expression (purpose_seen purpose) x
stage_seen code_stages.InStatements x b = state.in_statements b
stage_seen code_stages.Ended x b = state.ended b.before

abbrev pub declared_seen : code_state.State → List Declaration
declared_seen s = map declaration_of s.declarations.items

abbrev pub state_seen : code_state.State → State
state_seen s = record { declarations = declared_seen s; stage = stage_seen s.stage (partial_seen s.expression) (body_seen s.body) }

-- what came out where the program that has come, old, was to become what this step makes of it
abbrev pub Steps : Result (Unit {0}) FaultKind → code_state.State → code_state.State → (List Declaration → Option State) → Type 0
Steps result old new step = GivesNew result (state_seen new) (step (declared_seen old))
