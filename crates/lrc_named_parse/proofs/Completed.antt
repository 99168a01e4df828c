-- Every program that has begun can be completed.
use Rattle.std.proofs.Common.{ℕ, ◌+◌, List, [], ◌∷◌, ◌++◌, refl}
use Rattle.lrc_named_tokens.specs.declared.token.Keyword.TheVariants as keywords
use Rattle.lrc_named_tokens.specs.declared.token.Sign.TheVariants as signs
use Rattle.lrc_named_tokens.specs.Token.{Token}
use Rattle.lrc_named_tree.specs.Tree.{Named, Expression, Expressions, Declaration, NamedTree}
use Rattle.lrc_named_tree.specs.Tree as tree
use Rattle.lrc_named_tree.specs.Grammar.{Numbered, on, named, numbered, IsExpression}
use Rattle.lrc_named_tree.specs.Grammar as grammar
use Rattle.lrc_named_expression.specs.Partial.{push}
use Rattle.lrc_named_expression.proofs.Completed as expressions
use Rattle.lrc_named_statement.proofs.From as statement_from
use Rattle.lrc_named_statement.proofs.Completed as statements
use Rattle.lrc_named_parse.specs.State.{Items, Purpose, value_of_constant, size_of, body_of, Stage, State}
use Rattle.lrc_named_parse.specs.State as state
use Rattle.lrc_named_parse.proofs.From.{whole, FromDeclarations, states, count_ends, count_goes_on, FromValue, value_comes}
use Rattle.lrc_named_parse.proofs.From.{constant_goes_on, FromItem, items_end, item_goes_on, FromParameters, body_comes, FromParameter, parameters_end}
use Rattle.lrc_named_parse.proofs.From.{parameter_goes_on, FromOpening, none_come, FromFunction, opens_on, function_goes_on, FromPurpose, constant_ends}
use Rattle.lrc_named_parse.proofs.From.{size_ends, body_ends, CompletesAt, Completes}

abbrev no_more : List Token
no_more = Token.finish ∷ []

abbrev end : List Token
end = Token.sign signs.Semicolon ∷ no_more

abbrev value_end : List Token
value_end = Token.sign signs.Assign ∷ Token.number 0 ∷ end

abbrev closing : List Token
closing = Token.sign signs.CloseParenthesis ∷ value_end

abbrev opening : List Token
opening = Token.sign signs.OpenParenthesis ∷ closing

abbrev purpose_end : Purpose → List Token
purpose_end (value_of_constant first n) = end
purpose_end (size_of items n sizes) = Token.sign signs.CloseBracket ∷ end
purpose_end (body_of first n parameters) = end

abbrev stage_end : Stage → List Token
stage_end state.at_first = Token.keyword keywords.Nodes ∷ Token.number 0 ∷ end
stage_end state.at_declaration = no_more
stage_end (state.before_count first) = Token.number 0 ∷ end
stage_end (state.after_count first n) = end
stage_end (state.before_constant first) = Token.name [] ∷ value_end
stage_end (state.after_constant first n) = value_end
stage_end (state.before_item items) = Token.name [] ∷ end
stage_end (state.after_item items n sizes) = end
stage_end (state.before_function first) = Token.name [] ∷ opening
stage_end (state.after_function first n) = opening
stage_end (state.before_first first n) = closing
stage_end (state.before_parameter first n parameters) = Token.name [] ∷ closing
stage_end (state.after_parameter first n parameters) = closing
stage_end (state.after_parameters first n parameters) = value_end
stage_end (state.in_expression purpose x) = expressions.completion x (purpose_end purpose)
stage_end (state.in_statements b) = statements.completion b
stage_end (state.ended statements) = []

-- tokens that complete what has come
abbrev pub completion : State → List Token
completion s = stage_end s.stage

zero_expression : {at : ℕ} {rest : List Numbered} → IsExpression (tree.number at 0) (on at (Token.number 0) ∷ rest) rest
zero_expression =
    grammar.expression (grammar.both (grammar.one_sum (grammar.sum (grammar.term grammar.a_number grammar.no_factor) grammar.no_term)) grammar.no_test)
    grammar.no_both

at_end : (m : ℕ) (before : List Declaration) → FromDeclarations before (whole before tree.empty) (numbered m no_more)
at_end m before = states (record { block = tree.empty; same = refl; inside = statement_from.all_ends refl })

value_completed : (m first : ℕ) (n : Named) (before : List Declaration) → (p : NamedTree) × FromValue first n before p (numbered m value_end)
value_completed m first n before = (_, value_comes zero_expression (at_end _ _))

item_completed : (m : ℕ) (items : Items) (n : Named) (sizes : Expressions) (before : List Declaration) → (p : NamedTree) × FromItem items n sizes before p (numbered m end)
item_completed m items n sizes before = (_, items_end (at_end _ _))

parameters_completed : (m first : ℕ) (n : Named) (parameters : List Named) (before : List Declaration) →
    (p : NamedTree) × FromParameters first n parameters before p (numbered m value_end)
parameters_completed m first n parameters before = (_, body_comes zero_expression (at_end _ _))

parameter_completed : (m first : ℕ) (n : Named) (parameters : List Named) (before : List Declaration) →
    (p : NamedTree) × FromParameter first n parameters before p (numbered m closing)
parameter_completed m first n parameters before =
    let k = parameters_completed (m + 1) first n parameters before in
    (k.0, parameters_end k.1)

opening_completed : (m first : ℕ) (n : Named) (before : List Declaration) → (p : NamedTree) × FromOpening first n before p (numbered m closing)
opening_completed m first n before =
    let k = parameters_completed (m + 1) first n [] before in
    (k.0, none_come k.1)

function_completed : (m first : ℕ) (n : Named) (before : List Declaration) → (p : NamedTree) × FromFunction first n before p (numbered m opening)
function_completed m first n before =
    let k = opening_completed (m + 1) first n before in
    (k.0, opens_on k.1)

purpose_completed : (m : ℕ) (purpose : Purpose) (value : Expression) (before : List Declaration) →
    (p : NamedTree) × FromPurpose purpose value before p (numbered m (purpose_end purpose))
purpose_completed m (value_of_constant first n) value before = (_, constant_ends (at_end _ _))
purpose_completed m (size_of items n sizes) value before =
    let k = item_completed (m + 1) items n (push sizes value) before in
    (k.0, size_ends k.1)
purpose_completed m (body_of first n parameters) value before = (_, body_ends (at_end _ _))

stage_completed : (m : ℕ) (before : List Declaration) (stage : Stage) → (p : NamedTree) × CompletesAt before stage p (numbered m (stage_end stage))
stage_completed m before state.at_first = (_, record { declaration = _; more = _; spelled = grammar.node_count; behind = at_end _ _ })
stage_completed m before state.at_declaration = (_, at_end m before)
stage_completed m before (state.before_count first) = (_, count_goes_on (count_ends (at_end _ _)))
stage_completed m before (state.after_count first n) = (_, count_ends (at_end _ _))
stage_completed m before (state.before_constant first) =
    let k = value_completed (m + 1) first (named m []) before in
    (k.0, constant_goes_on k.1)
stage_completed m before (state.after_constant first n) = value_completed m first n before
stage_completed m before (state.before_item items) =
    let k = item_completed (m + 1) items (named m []) tree.none before in
    (k.0, item_goes_on k.1)
stage_completed m before (state.after_item items n sizes) = item_completed m items n sizes before
stage_completed m before (state.before_function first) =
    let k = function_completed (m + 1) first (named m []) before in
    (k.0, function_goes_on k.1)
stage_completed m before (state.after_function first n) = function_completed m first n before
stage_completed m before (state.before_first first n) = opening_completed m first n before
stage_completed m before (state.before_parameter first n parameters) =
    let k = parameter_completed (m + 1) first n (parameters ++ named m [] ∷ []) before in
    (k.0, parameter_goes_on k.1)
stage_completed m before (state.after_parameter first n parameters) = parameter_completed m first n parameters before
stage_completed m before (state.after_parameters first n parameters) = parameters_completed m first n parameters before
stage_completed m before (state.in_expression purpose x) =
    let e = expressions.completed m x (purpose_end purpose) in
    let k = purpose_completed e.1 purpose e.0 before in
    (k.0, record { value = e.0; more = numbered e.1 (purpose_end purpose); inside = e.2; behind = k.1 })
stage_completed m before (state.in_statements b) =
    let k = statements.completed m b in
    (whole before k.0, record { block = k.0; same = refl; inside = k.1 })
stage_completed m before (state.ended statements) = (whole before statements, (refl, refl))

-- the tokens of the completion, whatever the first one's index, complete what has come
pub completed : (m : ℕ) (s : State) → (p : NamedTree) × Completes s p (numbered m (completion s))
completed m s = stage_completed m s.declarations s.stage
