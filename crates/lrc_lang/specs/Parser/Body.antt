-- Statements of which some symbols have come: what the parser keeps of them, and what the next symbol makes of that.
use Rattle.std.specs.Prelude.{ℕ, Bool, true, false, List, [], ◌∷◌, Option, Some, None, cond}
use Rattle.lrc_lang.specs.declared.token.Keyword.TheVariants.{Acquire, Release, Barrier, Print, If, Else, While}
use Rattle.lrc_lang.specs.declared.token.Sign.TheVariants as signs
use Rattle.lrc_lang.specs.Symbol.{Symbol}
use Rattle.lrc_program.specs.Tree.{Expression, Statement, Block, empty, next}
use Rattle.lrc_lang.specs.Parser.Partial.{Partial, nothing, partial_with, value_of}

-- what an expression stands in a statement for
pub data Purpose : Type 0 where
  assigned : ℕ → Purpose
  word_read : ℕ → Purpose
  word_written : Purpose
  written : Expression → Purpose
  acquired : Purpose
  released : Purpose
  printed : Purpose
  if_condition : Purpose
  while_condition : Purpose

-- where the last symbol has led to
pub data Place : Type 0 where
  -- a statement may begin, and a block may end
  at_statement : Place
  -- behind the name at the beginning of a statement
  after_name : ℕ → Place
  -- behind that name and `=`
  after_equals : ℕ → Place
  -- in an expression
  in_expression : Purpose → Partial → Place
  -- behind the `[word]` at the beginning of a statement
  after_word : Expression → Place
  -- in front of the `;` that ends this statement
  before_end : Statement → Place
  -- behind the first block of an `if`: `else` may come, and what may come at a statement
  after_then : Expression → Block → Place
  -- behind that `else`
  after_else : Expression → Block → Place

-- what an open block belongs to
pub data Owner : Type 0 where
  then_of : Expression → Owner
  else_of : Expression → Block → Owner
  inside_of : Expression → Owner

-- an open block: the statements before the one that it belongs to, and the owner
pub record Around : Type 0 where
  pub before : Block
  pub owner : Owner

-- the open blocks, innermost first, the statements of the innermost that have come, and the place
pub record Body : Type 0 where
  pub outer : List Around
  pub before : Block
  pub place : Place

-- these statements, outside of all blocks
abbrev pub holding : Block → Body
holding statements = record { outer = []; before = statements; place = at_statement }

abbrev pub start : Body
start = holding empty

-- the statements, and one more
abbrev pub push : Block → Statement → Block
push empty last = next last empty
push (next first others) last = next first (push others last)

abbrev pub at : List Around → Block → Place → Option Body
at outer before place = Some (record { outer = outer; before = before; place = place })

abbrev pub done : List Around → Block → Statement → Option Body
done outer before s = at outer (push before s) at_statement

abbrev pub opened : List Around → Block → Owner → Option Body
opened outer before owner = at (record { before = before; owner = owner } ∷ outer) empty at_statement

-- the innermost block ends
abbrev pub close_for : List Around → Block → Owner → Block → Option Body
close_for outer before (then_of condition) inside = at outer before (after_then condition inside)
close_for outer before (else_of condition first) inside = done outer before (Statement.if_else condition first inside)
close_for outer before (inside_of condition) inside = done outer before (Statement.while_do condition inside)

abbrev pub close : List Around → Block → Option Body
close [] inside = None
close (around ∷ outer) inside = close_for outer around.before around.owner inside

-- where a statement may begin
abbrev pub begin : List Around → Block → Symbol → Option Body
begin outer before (Symbol.name k) = at outer before (after_name k)
begin outer before (Symbol.sign signs.OpenBracket) = at outer before (in_expression word_written nothing)
begin outer before (Symbol.keyword Acquire) = at outer before (in_expression acquired nothing)
begin outer before (Symbol.keyword Release) = at outer before (in_expression released nothing)
begin outer before (Symbol.keyword Barrier) = at outer before (before_end Statement.barrier)
begin outer before (Symbol.keyword Print) = at outer before (in_expression printed nothing)
begin outer before (Symbol.keyword If) = at outer before (in_expression if_condition nothing)
begin outer before (Symbol.keyword While) = at outer before (in_expression while_condition nothing)
begin outer before (Symbol.sign signs.CloseBrace) = close outer before
begin outer before _ = None

-- the sign that ends an expression
pub data Ending : Type 0 where
  semicolon : Ending
  bracket : Ending
  brace : Ending

abbrev pub ending_of : Purpose → Ending
ending_of (assigned k) = semicolon
ending_of (word_read k) = bracket
ending_of word_written = bracket
ending_of (written w) = semicolon
ending_of acquired = semicolon
ending_of released = semicolon
ending_of printed = semicolon
ending_of if_condition = brace
ending_of while_condition = brace

abbrev pub is_ending : Ending → Symbol → Bool
is_ending semicolon (Symbol.sign signs.Semicolon) = true
is_ending bracket (Symbol.sign signs.CloseBracket) = true
is_ending brace (Symbol.sign signs.OpenBrace) = true
is_ending _ _ = false

-- behind the end of an expression that stands for this
abbrev pub ended : List Around → Block → Purpose → Expression → Option Body
ended outer before (assigned k) value = done outer before (Statement.assign k value)
ended outer before (word_read k) value = at outer before (before_end (Statement.read k value))
ended outer before word_written value = at outer before (after_word value)
ended outer before (written w) value = done outer before (Statement.write w value)
ended outer before acquired value = done outer before (Statement.acquire value)
ended outer before released value = done outer before (Statement.release value)
ended outer before printed value = done outer before (Statement.print value)
ended outer before if_condition value = opened outer before (then_of value)
ended outer before while_condition value = opened outer before (inside_of value)

abbrev pub if_some : {A B : Type 0} → Option A → (A → Option B) → Option B
if_some None f = None
if_some (Some x) f = f x

-- in an expression
abbrev pub go_on : List Around → Block → Purpose → Partial → Symbol → Option Body
go_on outer before purpose x symbol =
    cond
    (is_ending (ending_of purpose) symbol)
    (if_some (value_of x) (λ value. ended outer before purpose value))
    (if_some (partial_with x symbol) (λ y. at outer before (in_expression purpose y)))

abbrev pub behind_name : List Around → Block → ℕ → Symbol → Option Body
behind_name outer before k (Symbol.sign signs.Assign) = at outer before (after_equals k)
behind_name outer before k _ = None

abbrev pub behind_equals : List Around → Block → ℕ → Symbol → Option Body
behind_equals outer before k (Symbol.sign signs.OpenBracket) = at outer before (in_expression (word_read k) nothing)
behind_equals outer before k symbol = go_on outer before (assigned k) nothing symbol

abbrev pub behind_word : List Around → Block → Expression → Symbol → Option Body
behind_word outer before w (Symbol.sign signs.Assign) = at outer before (in_expression (written w) nothing)
behind_word outer before w _ = None

abbrev pub at_end : List Around → Block → Statement → Symbol → Option Body
at_end outer before s (Symbol.sign signs.Semicolon) = done outer before s
at_end outer before s _ = None

abbrev pub behind_then : List Around → Block → Expression → Block → Symbol → Option Body
behind_then outer before condition first (Symbol.keyword Else) = at outer before (after_else condition first)
behind_then outer before condition first symbol = begin outer (push before (Statement.if_else condition first empty)) symbol

abbrev pub behind_else : List Around → Block → Expression → Block → Symbol → Option Body
behind_else outer before condition first (Symbol.sign signs.OpenBrace) = opened outer before (else_of condition first)
behind_else outer before condition first _ = None

abbrev pub moved : List Around → Block → Place → Symbol → Option Body
moved outer before at_statement symbol = begin outer before symbol
moved outer before (after_name k) symbol = behind_name outer before k symbol
moved outer before (after_equals k) symbol = behind_equals outer before k symbol
moved outer before (in_expression purpose x) symbol = go_on outer before purpose x symbol
moved outer before (after_word w) symbol = behind_word outer before w symbol
moved outer before (before_end s) symbol = at_end outer before s symbol
moved outer before (after_then condition first) symbol = behind_then outer before condition first symbol
moved outer before (after_else condition first) symbol = behind_else outer before condition first symbol

-- the statements with one more symbol, or None where it cannot stand there
abbrev pub body_with : Body → Symbol → Option Body
body_with b symbol = moved b.outer b.before b.place symbol

-- the statements, if they may end
abbrev pub whole_in : List Around → Block → Place → Option Block
whole_in [] before at_statement = Some before
whole_in [] before (after_then condition first) = Some (push before (Statement.if_else condition first empty))
whole_in _ _ _ = None

abbrev pub whole_of : Body → Option Block
whole_of b = whole_in b.outer b.before b.place
