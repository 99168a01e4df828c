-- A named program of which some tokens have come: what the parser keeps of it, and what the next token makes of that.
use Rattle.std.specs.Prelude.{ℕ, Bool, true, false, List, [], ◌∷◌, ◌++◌, Option, Some, None}
use Rattle.lrc_named_tokens.specs.declared.token.Keyword.TheVariants as keywords
use Rattle.lrc_named_tokens.specs.declared.token.Sign.TheVariants as signs
use Rattle.lrc_named_tokens.specs.Token.{Token}
use Rattle.lrc_named_tokens.specs.Token as token
use Rattle.lrc_named_tree.specs.Tree.{Named, Expression, Expressions, Place, Block, Declaration, NamedTree}
use Rattle.lrc_named_tree.specs.Grammar.{named}
use Rattle.lrc_named_expression.specs.Partial.{Partial, nothing, partial_with, value_of, push}
use Rattle.lrc_named_statement.specs.Body.{Body, body_with}
use Rattle.lrc_named_statement.specs.Body as body

-- what items are
pub data Shared : Type 0 where
  words : Shared
  locks : Shared

-- items of which some have come: the first token, what they are, and those before the last one
pub record Items : Type 0 where
  pub first : ℕ
  pub are : Shared
  pub before : List Place

-- what an expression stands in a declaration for
pub data Purpose : Type 0 where
  value_of_constant : ℕ → Named → Purpose
  size_of : Items → Named → Expressions → Purpose
  body_of : ℕ → Named → List Named → Purpose

-- where the last token has led to
pub data Stage : Type 0 where
  -- the first declaration has to begin
  at_first : Stage
  -- a declaration may begin, or the statements
  at_declaration : Stage
  before_count : ℕ → Stage
  after_count : ℕ → ℕ → Stage
  before_constant : ℕ → Stage
  after_constant : ℕ → Named → Stage
  before_item : Items → Stage
  after_item : Items → Named → Expressions → Stage
  before_function : ℕ → Stage
  after_function : ℕ → Named → Stage
  -- behind the `(` of a function
  before_first : ℕ → Named → Stage
  before_parameter : ℕ → Named → List Named → Stage
  after_parameter : ℕ → Named → List Named → Stage
  after_parameters : ℕ → Named → List Named → Stage
  in_expression : Purpose → Partial → Stage
  in_statements : Body → Stage
  ended : Block → Stage

-- the declarations that have come, and the stage
pub record State : Type 0 where
  pub declarations : List Declaration
  pub stage : Stage

abbrev pub start : State
start = record { declarations = []; stage = at_first }

abbrev pub at : List Declaration → Stage → Option State
at declarations stage = Some (record { declarations = declarations; stage = stage })

abbrev pub declared : List Declaration → Declaration → Option State
declared before last = at (before ++ last ∷ []) at_declaration

abbrev pub declaration_of : Shared → ℕ → List Place → Declaration
declaration_of words first all = Declaration.shared first all
declaration_of locks first all = Declaration.lock first all

abbrev pub items_declared : Items → Declaration
items_declared items = declaration_of items.are items.first items.before

-- no items so far
abbrev pub items_from : ℕ → Shared → Items
items_from first are = record { first = first; are = are; before = [] }

abbrev pub express : List Declaration → Purpose → Option State
express before purpose = at before (in_expression purpose nothing)

-- where a declaration may begin
abbrev pub begin : List Declaration → ℕ → Token → Option State
begin before i (token.keyword keywords.Nodes) = at before (before_count i)
begin before i (token.keyword keywords.Const) = at before (before_constant i)
begin before i (token.keyword keywords.Shared) = at before (before_item (record { first = i; are = words; before = [] }))
begin before i (token.keyword keywords.Lock) = at before (before_item (record { first = i; are = locks; before = [] }))
begin before i (token.keyword keywords.Fn) = at before (before_function i)
begin before i _ = None

abbrev pub stated : List Declaration → Option Body → Option State
stated before (Some b) = at before (in_statements b)
stated before None = None

abbrev pub finished : List Declaration → Option Block → Option State
finished before (Some statements) = at before (ended statements)
finished before None = None

-- in the statements, or at their beginning
abbrev pub go_on : List Declaration → Body → ℕ → Token → Option State
go_on before b i token.finish = finished before (body.whole_of b)
go_on before b i t = stated before (body_with b i t)

-- where a declaration may begin, or the statements
abbrev pub begin_either : List Declaration → ℕ → Token → Option State
begin_either before i (token.keyword keywords.Nodes) = begin before i (token.keyword keywords.Nodes)
begin_either before i (token.keyword keywords.Const) = begin before i (token.keyword keywords.Const)
begin_either before i (token.keyword keywords.Shared) = begin before i (token.keyword keywords.Shared)
begin_either before i (token.keyword keywords.Lock) = begin before i (token.keyword keywords.Lock)
begin_either before i (token.keyword keywords.Fn) = begin before i (token.keyword keywords.Fn)
begin_either before i t = go_on before body.start i t

abbrev pub name_constant : List Declaration → ℕ → ℕ → Token → Option State
name_constant before first i (token.name bytes) = at before (after_constant first (named i bytes))
name_constant before first i _ = None

abbrev pub name_item : List Declaration → Items → ℕ → Token → Option State
name_item before items i (token.name bytes) = at before (after_item items (named i bytes) Expressions.none)
name_item before items i _ = None

abbrev pub name_function : List Declaration → ℕ → ℕ → Token → Option State
name_function before first i (token.name bytes) = at before (after_function first (named i bytes))
name_function before first i _ = None

abbrev pub name_parameter : List Declaration → ℕ → Named → List Named → ℕ → Token → Option State
name_parameter before first name parameters i (token.name bytes) = at before (after_parameter first name (parameters ++ named i bytes ∷ []))
name_parameter before first name parameters i _ = None

abbrev pub behind_count : List Declaration → ℕ → Token → Option State
behind_count before first (token.number n) = at before (after_count first n)
behind_count before first _ = None

abbrev pub end_count : List Declaration → ℕ → ℕ → Token → Option State
end_count before first n (token.sign signs.Semicolon) = declared before (Declaration.node_count first n)
end_count before first n _ = None

abbrev pub behind_constant : List Declaration → ℕ → Named → Token → Option State
behind_constant before first name (token.sign signs.Assign) = express before (value_of_constant first name)
behind_constant before first name _ = None

abbrev pub with_item : Items → Named → Expressions → List Place
with_item items name sizes = items.before ++ record { name = name; indices = sizes } ∷ []

-- these items, and then another one
abbrev pub with_next : Items → Named → Expressions → Items
with_next items name sizes = record { first = items.first; are = items.are; before = with_item items name sizes }

abbrev pub behind_item : List Declaration → Items → Named → Expressions → Token → Option State
behind_item before items name sizes (token.sign signs.OpenBracket) = express before (size_of items name sizes)
behind_item before items name sizes (token.sign signs.Comma) = at before (before_item (with_next items name sizes))
behind_item before items name sizes (token.sign signs.Semicolon) = declared before (declaration_of items.are items.first (with_item items name sizes))
behind_item before items name sizes _ = None

abbrev pub behind_function : List Declaration → ℕ → Named → Token → Option State
behind_function before first name (token.sign signs.OpenParenthesis) = at before (before_first first name)
behind_function before first name _ = None

abbrev pub behind_opening : List Declaration → ℕ → Named → ℕ → Token → Option State
behind_opening before first name i (token.name bytes) = at before (after_parameter first name (named i bytes ∷ []))
behind_opening before first name i (token.sign signs.CloseParenthesis) = at before (after_parameters first name [])
behind_opening before first name i _ = None

abbrev pub behind_parameter : List Declaration → ℕ → Named → List Named → Token → Option State
behind_parameter before first name parameters (token.sign signs.Comma) = at before (before_parameter first name parameters)
behind_parameter before first name parameters (token.sign signs.CloseParenthesis) = at before (after_parameters first name parameters)
behind_parameter before first name parameters _ = None

abbrev pub behind_parameters : List Declaration → ℕ → Named → List Named → Token → Option State
behind_parameters before first name parameters (token.sign signs.Assign) = express before (body_of first name parameters)
behind_parameters before first name parameters _ = None

abbrev pub is_ending : Purpose → Token → Bool
is_ending (value_of_constant first name) (token.sign signs.Semicolon) = true
is_ending (size_of items name sizes) (token.sign signs.CloseBracket) = true
is_ending (body_of first name parameters) (token.sign signs.Semicolon) = true
is_ending _ _ = false

abbrev pub expressed : List Declaration → Purpose → Expression → Option State
expressed before (value_of_constant first name) value = declared before (Declaration.constant first name value)
expressed before (size_of items name sizes) value = at before (after_item items name (push sizes value))
expressed before (body_of first name parameters) value = declared before (Declaration.function first name parameters value)

abbrev pub continued : List Declaration → Purpose → Option Partial → Option State
continued before purpose (Some x) = at before (in_expression purpose x)
continued before purpose None = None

-- an expression that may end has ended in front of a token that ends it; any other goes on
abbrev pub expressed_or_continued : List Declaration → Purpose → Option Expression → Bool → Option Partial → Option State
expressed_or_continued before purpose (Some value) true x = expressed before purpose value
expressed_or_continued before purpose _ _ x = continued before purpose x

abbrev pub moved : List Declaration → Stage → ℕ → Token → Option State
moved before at_first i t = begin before i t
moved before at_declaration i t = begin_either before i t
moved before (before_count first) i t = behind_count before first t
moved before (after_count first n) i t = end_count before first n t
moved before (before_constant first) i t = name_constant before first i t
moved before (after_constant first name) i t = behind_constant before first name t
moved before (before_item items) i t = name_item before items i t
moved before (after_item items name sizes) i t = behind_item before items name sizes t
moved before (before_function first) i t = name_function before first i t
moved before (after_function first name) i t = behind_function before first name t
moved before (before_first first name) i t = behind_opening before first name i t
moved before (before_parameter first name parameters) i t = name_parameter before first name parameters i t
moved before (after_parameter first name parameters) i t = behind_parameter before first name parameters t
moved before (after_parameters first name parameters) i t = behind_parameters before first name parameters t
moved before (in_expression purpose x) i t = expressed_or_continued before purpose (value_of x) (is_ending purpose t) (partial_with x i t)
moved before (in_statements b) i t = go_on before b i t
moved before (ended statements) i t = None

-- the text with one more token, or None where it cannot stand there
abbrev pub state_with : State → ℕ → Token → Option State
state_with s i t = moved s.declarations s.stage i t

-- whether the text has ended
abbrev pub IsEnded : Stage → Type 0
IsEnded (ended statements) = Unit {0}
IsEnded _ = ⊥

abbrev pub block_in : Stage → Block
block_in (ended statements) = statements
block_in _ = Block.empty

-- the program, once the text has ended
abbrev pub program_in : State → NamedTree
program_in s = record { declarations = s.declarations; statements = block_in s.stage }
