-- What completes a named program of which some tokens have come.
use Rattle.std.proofs.Common.{◌≡◌, ℕ, List, [], ◌∷◌, ◌++◌}
use Rattle.lrc_named_tokens.specs.declared.token.Sign.TheVariants as signs
use Rattle.lrc_named_tokens.specs.Token.{name, number, sign}
use Rattle.lrc_named_tree.specs.Tree.{Named, Expression, Expressions, Block, Declaration, NamedTree}
use Rattle.lrc_named_tree.specs.Tree as tree
use Rattle.lrc_named_tree.specs.Grammar.{Numbered, on, named, IsExpression, IsDeclaration}
use Rattle.lrc_named_expression.specs.Partial.{Partial, push}
use Rattle.lrc_named_expression.proofs.From as expressions
use Rattle.lrc_named_statement.specs.Body.{Body}
use Rattle.lrc_named_statement.specs.Body as body
use Rattle.lrc_named_statement.proofs.From as statements
use Rattle.lrc_named_parse.specs.State.{Items, Purpose, value_of_constant, size_of, body_of, Stage, State, declaration_of, with_item, with_next}
use Rattle.lrc_named_parse.specs.State as state

abbrev pub whole : List Declaration → Block → NamedTree
whole before statements = record { declarations = before; statements = statements }

-- in the statements
pub record FromBody (before : List Declaration) (b : Body) (p : NamedTree) (all : List Numbered) : Type 0 where
  pub block : Block
  pub same : whole before block ≡ p
  pub inside : statements.Completes b block all

-- where a declaration may begin, or the statements
pub data FromDeclarations : List Declaration → NamedTree → List Numbered → Type 0 where
  goes_on : {before : List Declaration} {d : Declaration} {p : NamedTree} {all more : List Numbered} →
      IsDeclaration d all more → FromDeclarations (before ++ d ∷ []) p more → FromDeclarations before p all
  states : {before : List Declaration} {p : NamedTree} {all : List Numbered} → FromBody before body.start p all → FromDeclarations before p all

-- where the first declaration has to begin
pub record FromFirst (before : List Declaration) (p : NamedTree) (all : List Numbered) : Type 0 where
  pub declaration : Declaration
  pub more : List Numbered
  pub spelled : IsDeclaration declaration all more
  pub behind : FromDeclarations (before ++ declaration ∷ []) p more

-- ---- in `nodes`

pub data FromCountEnd : ℕ → ℕ → List Declaration → NamedTree → List Numbered → Type 0 where
  count_ends : {first n ends : ℕ} {before : List Declaration} {p : NamedTree} {all : List Numbered} →
      FromDeclarations (before ++ tree.node_count first n ∷ []) p all → FromCountEnd first n before p (on ends (sign signs.Semicolon) ∷ all)

pub data FromCount : ℕ → List Declaration → NamedTree → List Numbered → Type 0 where
  count_goes_on : {first n own : ℕ} {before : List Declaration} {p : NamedTree} {all : List Numbered} →
      FromCountEnd first n before p all → FromCount first before p (on own (number n) ∷ all)

-- ---- in `const`

pub data FromValue : ℕ → Named → List Declaration → NamedTree → List Numbered → Type 0 where
  value_comes : {first sets ends : ℕ} {n : Named} {value : Expression} {before : List Declaration} {p : NamedTree} {all rest : List Numbered} →
      IsExpression value all (on ends (sign signs.Semicolon) ∷ rest) → FromDeclarations (before ++ tree.constant first n value ∷ []) p rest →
      FromValue first n before p (on sets (sign signs.Assign) ∷ all)

pub data FromConstant : ℕ → List Declaration → NamedTree → List Numbered → Type 0 where
  constant_goes_on : {first own : ℕ} {bytes : List ℕ} {before : List Declaration} {p : NamedTree} {all : List Numbered} →
      FromValue first (named own bytes) before p all → FromConstant first before p (on own (name bytes) ∷ all)

-- ---- in `shared` and `lock`

mutual
  -- behind an item, behind which a size may begin
  pub data FromItem : Items → Named → Expressions → List Declaration → NamedTree → List Numbered → Type 0 where
    size_comes : {items : Items} {n : Named} {sizes : Expressions} {e : Expression} {opens closes : ℕ} {before : List Declaration} {p : NamedTree}
        {all behind : List Numbered} →
        IsExpression e all (on closes (sign signs.CloseBracket) ∷ behind) → FromItem items n (push sizes e) before p behind →
        FromItem items n sizes before p (on opens (sign signs.OpenBracket) ∷ all)
    next_comes : {items : Items} {n : Named} {sizes : Expressions} {comma : ℕ} {before : List Declaration} {p : NamedTree} {all : List Numbered} →
        FromItems (with_next items n sizes) before p all → FromItem items n sizes before p (on comma (sign signs.Comma) ∷ all)
    items_end : {items : Items} {n : Named} {sizes : Expressions} {ends : ℕ} {before : List Declaration} {p : NamedTree} {all : List Numbered} →
        FromDeclarations (before ++ declaration_of items.are items.first (with_item items n sizes) ∷ []) p all →
        FromItem items n sizes before p (on ends (sign signs.Semicolon) ∷ all)

  -- in front of an item
  pub data FromItems : Items → List Declaration → NamedTree → List Numbered → Type 0 where
    item_goes_on : {items : Items} {own : ℕ} {bytes : List ℕ} {before : List Declaration} {p : NamedTree} {all : List Numbered} →
        FromItem items (named own bytes) tree.none before p all → FromItems items before p (on own (name bytes) ∷ all)

-- ---- in `fn`

pub data FromParameters : ℕ → Named → List Named → List Declaration → NamedTree → List Numbered → Type 0 where
  body_comes : {first sets ends : ℕ} {n : Named} {parameters : List Named} {value : Expression} {before : List Declaration} {p : NamedTree}
      {all rest : List Numbered} →
      IsExpression value all (on ends (sign signs.Semicolon) ∷ rest) → FromDeclarations (before ++ tree.function first n parameters value ∷ []) p rest →
      FromParameters first n parameters before p (on sets (sign signs.Assign) ∷ all)

mutual
  -- behind a parameter
  pub data FromParameter : ℕ → Named → List Named → List Declaration → NamedTree → List Numbered → Type 0 where
    another_comes : {first comma : ℕ} {n : Named} {parameters : List Named} {before : List Declaration} {p : NamedTree} {all : List Numbered} →
        FromNext first n parameters before p all → FromParameter first n parameters before p (on comma (sign signs.Comma) ∷ all)
    parameters_end : {first closes : ℕ} {n : Named} {parameters : List Named} {before : List Declaration} {p : NamedTree} {all : List Numbered} →
        FromParameters first n parameters before p all → FromParameter first n parameters before p (on closes (sign signs.CloseParenthesis) ∷ all)

  -- in front of a parameter
  pub data FromNext : ℕ → Named → List Named → List Declaration → NamedTree → List Numbered → Type 0 where
    parameter_goes_on : {first own : ℕ} {bytes : List ℕ} {n : Named} {parameters : List Named} {before : List Declaration} {p : NamedTree}
        {all : List Numbered} →
        FromParameter first n (parameters ++ named own bytes ∷ []) before p all → FromNext first n parameters before p (on own (name bytes) ∷ all)

-- behind the `(`
pub data FromOpening : ℕ → Named → List Declaration → NamedTree → List Numbered → Type 0 where
  none_come : {first closes : ℕ} {n : Named} {before : List Declaration} {p : NamedTree} {all : List Numbered} →
      FromParameters first n [] before p all → FromOpening first n before p (on closes (sign signs.CloseParenthesis) ∷ all)
  some_come : {first own : ℕ} {bytes : List ℕ} {n : Named} {before : List Declaration} {p : NamedTree} {all : List Numbered} →
      FromParameter first n (named own bytes ∷ []) before p all → FromOpening first n before p (on own (name bytes) ∷ all)

pub data FromFunction : ℕ → Named → List Declaration → NamedTree → List Numbered → Type 0 where
  opens_on : {first opens : ℕ} {n : Named} {before : List Declaration} {p : NamedTree} {all : List Numbered} →
      FromOpening first n before p all → FromFunction first n before p (on opens (sign signs.OpenParenthesis) ∷ all)

pub data FromFn : ℕ → List Declaration → NamedTree → List Numbered → Type 0 where
  function_goes_on : {first own : ℕ} {bytes : List ℕ} {before : List Declaration} {p : NamedTree} {all : List Numbered} →
      FromFunction first (named own bytes) before p all → FromFn first before p (on own (name bytes) ∷ all)

-- ---- in an expression

-- behind it
pub data FromPurpose : Purpose → Expression → List Declaration → NamedTree → List Numbered → Type 0 where
  constant_ends : {first ends : ℕ} {n : Named} {value : Expression} {before : List Declaration} {p : NamedTree} {all : List Numbered} →
      FromDeclarations (before ++ tree.constant first n value ∷ []) p all →
      FromPurpose (value_of_constant first n) value before p (on ends (sign signs.Semicolon) ∷ all)
  size_ends : {items : Items} {n : Named} {sizes : Expressions} {value : Expression} {closes : ℕ} {before : List Declaration} {p : NamedTree}
      {all : List Numbered} →
      FromItem items n (push sizes value) before p all → FromPurpose (size_of items n sizes) value before p (on closes (sign signs.CloseBracket) ∷ all)
  body_ends : {first ends : ℕ} {n : Named} {parameters : List Named} {value : Expression} {before : List Declaration} {p : NamedTree}
      {all : List Numbered} →
      FromDeclarations (before ++ tree.function first n parameters value ∷ []) p all →
      FromPurpose (body_of first n parameters) value before p (on ends (sign signs.Semicolon) ∷ all)

pub record FromInside (purpose : Purpose) (x : Partial) (before : List Declaration) (p : NamedTree) (all : List Numbered) : Type 0 where
  pub value : Expression
  pub more : List Numbered
  pub inside : expressions.Completes x value all more
  pub behind : FromPurpose purpose value before p more

-- ---- anywhere

abbrev pub CompletesAt : List Declaration → Stage → NamedTree → List Numbered → Type 0
CompletesAt before state.at_first p all = FromFirst before p all
CompletesAt before state.at_declaration p all = FromDeclarations before p all
CompletesAt before (state.before_count first) p all = FromCount first before p all
CompletesAt before (state.after_count first n) p all = FromCountEnd first n before p all
CompletesAt before (state.before_constant first) p all = FromConstant first before p all
CompletesAt before (state.after_constant first n) p all = FromValue first n before p all
CompletesAt before (state.before_item items) p all = FromItems items before p all
CompletesAt before (state.after_item items n sizes) p all = FromItem items n sizes before p all
CompletesAt before (state.before_function first) p all = FromFn first before p all
CompletesAt before (state.after_function first n) p all = FromFunction first n before p all
CompletesAt before (state.before_first first n) p all = FromOpening first n before p all
CompletesAt before (state.before_parameter first n parameters) p all = FromNext first n parameters before p all
CompletesAt before (state.after_parameter first n parameters) p all = FromParameter first n parameters before p all
CompletesAt before (state.after_parameters first n parameters) p all = FromParameters first n parameters before p all
CompletesAt before (state.in_expression purpose x) p all = FromInside purpose x before p all
CompletesAt before (state.in_statements b) p all = FromBody before b p all
CompletesAt before (state.ended statements) p all = (whole before statements ≡ p) × (all ≡ [])

-- these tokens, up to the end of the text, complete what has come to this program
abbrev pub Completes : State → NamedTree → List Numbered → Type 0
Completes s p all = CompletesAt s.declarations s.stage p all
