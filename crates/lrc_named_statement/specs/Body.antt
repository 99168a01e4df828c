-- Statements of which some tokens have come: what the parser keeps of them, and what the next token makes of that.
use Rattle.std.specs.Prelude.{ℕ, Bool, true, false, List, [], ◌∷◌, Option, Some, None}
use Rattle.lrc_named_tokens.specs.declared.token.Keyword.TheVariants as keywords
use Rattle.lrc_named_tokens.specs.declared.token.Sign.{Sign}
use Rattle.lrc_named_tokens.specs.declared.token.Sign.TheVariants as signs
use Rattle.lrc_named_tokens.specs.Token.{Token}
use Rattle.lrc_named_tokens.specs.Token as token
use Rattle.lrc_named_tree.specs.Tree.{Named, Expression, Expressions, Place, Update, Statement, Block, Arms}
use Rattle.lrc_named_tree.specs.Grammar.{named}
use Rattle.lrc_named_expression.specs.Partial.{Partial, nothing, partial_with, value_of, push}

-- what a place stands in a statement for
pub data Target : Type 0 where
  assigned : Target
  acquired : ℕ → Target
  released : ℕ → Target
  guarding : ℕ → Target

-- an `if` of which the first block has come, and each `else if` that has
pub record Branch : Type 0 where
  pub first : ℕ
  pub condition : Expression
  pub then : Block
  pub arms : Arms

-- what an expression stands in a statement for
pub data Purpose : Type 0 where
  index_of : Target → Named → Expressions → Purpose
  given : Place → Update → Purpose
  printed : ℕ → Expressions → Purpose
  asserted : ℕ → Purpose
  if_condition : ℕ → Purpose
  arm_condition : Branch → ℕ → Purpose
  while_condition : ℕ → Purpose
  for_first : ℕ → Named → Purpose
  for_end : ℕ → Named → Expression → Purpose

-- where the last token has led to
pub data Spot : Type 0 where
  -- a statement may begin, and a block may end
  at_statement : Spot
  -- in front of the name of a place
  before_place : Target → Spot
  -- behind a place, behind which an index may begin
  after_place : Target → Named → Expressions → Spot
  -- in an expression
  in_expression : Purpose → Partial → Spot
  -- in front of the `;` that ends this statement
  before_end : Statement → Spot
  -- in front of the name of a `for`, and in front of its `in`
  before_name : ℕ → Spot
  before_in : ℕ → Named → Spot
  -- behind a block of an `if`: `else` may come, and what may come at a statement
  after_branch : Branch → Spot
  -- behind that `else`
  after_else : Branch → Spot

-- what an open block belongs to
pub data Owner : Type 0 where
  then_of : ℕ → Expression → Owner
  arm_of : Branch → ℕ → Expression → Owner
  else_of : Branch → Owner
  guarded : ℕ → Place → Owner
  while_of : ℕ → Expression → Owner
  for_of : ℕ → Named → Expression → Expression → Owner

-- an open block: the statements before the one that it belongs to, and the owner
pub record Around : Type 0 where
  pub before : Block
  pub owner : Owner

-- the open blocks, innermost first, the statements of the innermost that have come, and the place
pub record Body : Type 0 where
  pub outer : List Around
  pub before : Block
  pub spot : Spot

-- these statements, outside of all blocks
abbrev pub holding : Block → Body
holding statements = record { outer = []; before = statements; spot = at_statement }

abbrev pub start : Body
start = holding Block.empty

-- statements, and others behind them
abbrev pub append : Block → Block → Block
append Block.empty others = others
append (Block.next first some) others = Block.next first (append some others)

-- the statements, and one more
abbrev pub with_statement : Block → Statement → Block
with_statement some last = append some (Block.next last Block.empty)

abbrev pub append_arms : Arms → Arms → Arms
append_arms Arms.no_arm others = others
append_arms (Arms.arm at condition block some) others = Arms.arm at condition block (append_arms some others)

abbrev pub with_arm : Branch → ℕ → Expression → Block → Branch
with_arm b at condition block = record b { arms = append_arms b.arms (Arms.arm at condition block Arms.no_arm) }

-- the whole `if`, with what stands behind its last `else`
abbrev pub whole_if : Branch → Block → Statement
whole_if b otherwise = Statement.if_else b.first b.condition b.then b.arms otherwise

abbrev pub at : List Around → Block → Spot → Option Body
at outer before spot = Some (record { outer = outer; before = before; spot = spot })

abbrev pub done : List Around → Block → Statement → Option Body
done outer before s = at outer (with_statement before s) at_statement

abbrev pub opened : List Around → Block → Owner → Option Body
opened outer before owner = at (record { before = before; owner = owner } ∷ outer) Block.empty at_statement

abbrev pub express : List Around → Block → Purpose → Option Body
express outer before purpose = at outer before (in_expression purpose nothing)

-- the innermost block ends, with this token
abbrev pub close_for : List Around → Block → Owner → Block → ℕ → Option Body
close_for outer before (then_of first condition) inside closes =
    at outer before (after_branch (record { first = first; condition = condition; then = inside; arms = Arms.no_arm }))
close_for outer before (arm_of b first condition) inside closes = at outer before (after_branch (with_arm b first condition inside))
close_for outer before (else_of b) inside closes = done outer before (whole_if b inside)
close_for outer before (guarded first place) inside closes = done outer before (Statement.with_do first place inside closes)
close_for outer before (while_of first condition) inside closes = done outer before (Statement.while_do first condition inside)
close_for outer before (for_of first name from end) inside closes = done outer before (Statement.for_do first name from end inside)

abbrev pub close : List Around → Block → ℕ → Option Body
close [] inside closes = None
close (around ∷ outer) inside closes = close_for outer around.before around.owner inside closes

-- where a statement may begin
abbrev pub begin : List Around → Block → ℕ → Token → Option Body
begin outer before i (token.name bytes) = at outer before (after_place assigned (named i bytes) Expressions.none)
begin outer before i (token.keyword keywords.Acquire) = at outer before (before_place (acquired i))
begin outer before i (token.keyword keywords.Release) = at outer before (before_place (released i))
begin outer before i (token.keyword keywords.With) = at outer before (before_place (guarding i))
begin outer before i (token.keyword keywords.Barrier) = at outer before (before_end (Statement.barrier i))
begin outer before i (token.keyword keywords.Print) = express outer before (printed i Expressions.none)
begin outer before i (token.keyword keywords.Assert) = express outer before (asserted i)
begin outer before i (token.keyword keywords.If) = express outer before (if_condition i)
begin outer before i (token.keyword keywords.While) = express outer before (while_condition i)
begin outer before i (token.keyword keywords.For) = at outer before (before_name i)
begin outer before i (token.sign signs.CloseBrace) = close outer before i
begin outer before i _ = None

-- behind the name after `acquire`, `release`, `with`
abbrev pub behind_word : List Around → Block → Target → ℕ → Token → Option Body
behind_word outer before t i (token.name bytes) = at outer before (after_place t (named i bytes) Expressions.none)
behind_word outer before t i _ = None

abbrev pub place_at : Named → Expressions → Place
place_at name indices = record { name = name; indices = indices }

-- a sign that ends a place
abbrev pub end_place_by : Sign → List Around → Block → Target → Place → Option Body
end_place_by signs.Assign outer before assigned p = express outer before (given p Update.set)
end_place_by signs.AddAssign outer before assigned p = express outer before (given p Update.add)
end_place_by signs.SubtractAssign outer before assigned p = express outer before (given p Update.subtract)
end_place_by signs.Semicolon outer before (acquired first) p = done outer before (Statement.acquire first p)
end_place_by signs.Semicolon outer before (released first) p = done outer before (Statement.release first p)
end_place_by signs.OpenBrace outer before (guarding first) p = opened outer before (guarded first p)
end_place_by _ _ _ _ _ = None

abbrev pub end_place : List Around → Block → Target → Place → Token → Option Body
end_place outer before t p (token.sign mark) = end_place_by mark outer before t p
end_place outer before t p _ = None

abbrev pub behind_place : List Around → Block → Target → Named → Expressions → Token → Option Body
behind_place outer before t name indices (token.sign signs.OpenBracket) = express outer before (index_of t name indices)
behind_place outer before t name indices u = end_place outer before t (place_at name indices) u

-- behind a value that is printed and a token: the next value begins, or the statement has ended
abbrev pub printed_with : List Around → Block → ℕ → Expressions → Token → Option Body
printed_with outer before first values (token.sign signs.Comma) = express outer before (printed first values)
printed_with outer before first values _ = done outer before (Statement.print first values)

-- behind a whole expression and the token that ends it
abbrev pub ended : List Around → Block → Purpose → Expression → Token → Option Body
ended outer before (index_of t name others) value u = at outer before (after_place t name (push others value))
ended outer before (given p update) value u = done outer before (Statement.assign p update value)
ended outer before (printed first others) value u = printed_with outer before first (push others value) u
ended outer before (asserted first) value u = done outer before (Statement.assert first value)
ended outer before (if_condition first) value u = opened outer before (then_of first value)
ended outer before (arm_condition b first) value u = opened outer before (arm_of b first value)
ended outer before (while_condition first) value u = opened outer before (while_of first value)
ended outer before (for_first first name) value u = express outer before (for_end first name value)
ended outer before (for_end first name from) value u = opened outer before (for_of first name from value)

-- whether this token ends an expression that stands for this
abbrev pub is_ending : Purpose → Token → Bool
is_ending (index_of t name others) (token.sign signs.CloseBracket) = true
is_ending (given p update) (token.sign signs.Semicolon) = true
is_ending (printed first others) (token.sign signs.Semicolon) = true
is_ending (printed first others) (token.sign signs.Comma) = true
is_ending (asserted first) (token.sign signs.Semicolon) = true
is_ending (if_condition first) (token.sign signs.OpenBrace) = true
is_ending (arm_condition b first) (token.sign signs.OpenBrace) = true
is_ending (while_condition first) (token.sign signs.OpenBrace) = true
is_ending (for_first first name) (token.sign signs.Range) = true
is_ending (for_end first name from) (token.sign signs.OpenBrace) = true
is_ending _ _ = false

abbrev pub continued : List Around → Block → Purpose → Option Partial → Option Body
continued outer before purpose (Some x) = at outer before (in_expression purpose x)
continued outer before purpose None = None

-- an expression that may end has ended in front of a token that ends it; any other goes on
abbrev pub ended_or_continued : List Around → Block → Purpose → Option Expression → Bool → Option Partial → Token → Option Body
ended_or_continued outer before purpose (Some value) true x t = ended outer before purpose value t
ended_or_continued outer before purpose _ _ x t = continued outer before purpose x

-- in an expression
abbrev pub go_on : List Around → Block → Purpose → Partial → ℕ → Token → Option Body
go_on outer before purpose x i t = ended_or_continued outer before purpose (value_of x) (is_ending purpose t) (partial_with x i t) t

abbrev pub at_end : List Around → Block → Statement → Token → Option Body
at_end outer before s (token.sign signs.Semicolon) = done outer before s
at_end outer before s _ = None

abbrev pub behind_for : List Around → Block → ℕ → ℕ → Token → Option Body
behind_for outer before first i (token.name bytes) = at outer before (before_in first (named i bytes))
behind_for outer before first i _ = None

abbrev pub behind_name : List Around → Block → ℕ → Named → Token → Option Body
behind_name outer before first name (token.keyword keywords.In) = express outer before (for_first first name)
behind_name outer before first name _ = None

abbrev pub behind_branch : List Around → Block → Branch → ℕ → Token → Option Body
behind_branch outer before b i (token.keyword keywords.Else) = at outer before (after_else b)
behind_branch outer before b i t = begin outer (with_statement before (whole_if b Block.empty)) i t

abbrev pub behind_else : List Around → Block → Branch → ℕ → Token → Option Body
behind_else outer before b i (token.sign signs.OpenBrace) = opened outer before (else_of b)
behind_else outer before b i (token.keyword keywords.If) = express outer before (arm_condition b i)
behind_else outer before b i _ = None

abbrev pub moved : List Around → Block → Spot → ℕ → Token → Option Body
moved outer before at_statement i t = begin outer before i t
moved outer before (before_place target) i t = behind_word outer before target i t
moved outer before (after_place target name indices) i t = behind_place outer before target name indices t
moved outer before (in_expression purpose x) i t = go_on outer before purpose x i t
moved outer before (before_end s) i t = at_end outer before s t
moved outer before (before_name first) i t = behind_for outer before first i t
moved outer before (before_in first name) i t = behind_name outer before first name t
moved outer before (after_branch b) i t = behind_branch outer before b i t
moved outer before (after_else b) i t = behind_else outer before b i t

-- the statements with one more token, or None where it cannot stand there
abbrev pub body_with : Body → ℕ → Token → Option Body
body_with b i t = moved b.outer b.before b.spot i t

-- the statements, if they may end
abbrev pub whole_in : List Around → Block → Spot → Option Block
whole_in [] before at_statement = Some before
whole_in [] before (after_branch b) = Some (with_statement before (whole_if b Block.empty))
whole_in _ _ _ = None

abbrev pub whole_of : Body → Option Block
whole_of b = whole_in b.outer b.before b.spot
