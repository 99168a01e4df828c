-- An expression of which some symbols have come: what the parser keeps of it, and what the next symbol makes of that.
use Rattle.std.specs.Prelude.{List, [], ◌∷◌, Option, Some, None, option_map}
use Rattle.lrc_lang.specs.declared.token.Keyword.TheVariants.{Me, Nodes}
use Rattle.lrc_lang.specs.declared.token.Sign.TheVariants.{OpenParenthesis, CloseParenthesis}
use Rattle.lrc_program.specs.declared.Operator.{Operator}
use Rattle.lrc_lang.specs.Symbol.{Symbol}
use Rattle.lrc_program.specs.Tree.{Expression, binary}
use Rattle.lrc_lang.specs.Grammar.{Joins, factors, terms, sums, joins}

-- a left side, and the operator behind it
pub record Pending : Type 0 where
  pub left : Expression
  pub operator : Operator

-- what waits for its right side, outside of all parentheses or inside of one: a sum that is compared, and a sum and a
-- term of which some operands have come
pub record Level : Type 0 where
  pub compared : Option Pending
  pub added : Option Pending
  pub multiplied : Option Pending

abbrev pub no_pending : Level
no_pending = record { compared = None; added = None; multiplied = None }

-- the levels around, innermost first, the level, and the operand that came last, if the last symbol ended one
pub record Partial : Type 0 where
  pub outer : List Level
  pub level : Level
  pub operand : Option Expression

abbrev pub nothing : Partial
nothing = record { outer = []; level = no_pending; operand = None }

-- this operand, behind what waits for it
abbrev pub joined : Option Pending → Expression → Expression
joined None right = right
joined (Some p) right = binary p.left p.operator right

-- the whole that this operand ends
abbrev pub term_of : Level → Expression → Expression
term_of level operand = joined level.multiplied operand

abbrev pub sum_of : Level → Expression → Expression
sum_of level operand = joined level.added (term_of level operand)

abbrev pub whole_of : Level → Expression → Expression
whole_of level operand = joined level.compared (sum_of level operand)

abbrev pub waiting : Expression → Operator → Option Pending
waiting left o = Some (record { left = left; operator = o })

-- what waits once a sum is to be compared: no sum may be compared twice
abbrev pub compared_with : Option Pending → Expression → Operator → Option Level
compared_with None left o = Some (record { compared = waiting left o; added = None; multiplied = None })
compared_with (Some p) left o = None

-- what waits behind this operand and this operator
abbrev pub level_with : Joins → Level → Expression → Operator → Option Level
level_with factors level operand o = Some (record level { multiplied = waiting (term_of level operand) o })
level_with terms level operand o = Some (record { compared = level.compared; added = waiting (sum_of level operand) o; multiplied = None })
level_with sums level operand o = compared_with level.compared (sum_of level operand) o

abbrev pub awaiting : List Level → Level → Partial
awaiting outer level = record { outer = outer; level = level; operand = None }

abbrev pub behind : List Level → Level → Expression → Partial
behind outer level operand = record { outer = outer; level = level; operand = Some operand }

-- where an operand has to begin
abbrev pub begin : List Level → Level → Symbol → Option Partial
begin outer level (Symbol.number n) = Some (behind outer level (Expression.number n))
begin outer level (Symbol.name k) = Some (behind outer level (Expression.private k))
begin outer level (Symbol.keyword Me) = Some (behind outer level Expression.me)
begin outer level (Symbol.keyword Nodes) = Some (behind outer level Expression.nodes)
begin outer level (Symbol.sign OpenParenthesis) = Some (awaiting (level ∷ outer) no_pending)
begin outer level _ = None

-- a parenthesis ends
abbrev pub close : List Level → Level → Expression → Option Partial
close [] level operand = None
close (around ∷ outer) level operand = Some (behind outer around (whole_of level operand))

-- behind an operand
abbrev pub go_on : List Level → Level → Expression → Symbol → Option Partial
go_on outer level operand (Symbol.operator o) = option_map (awaiting outer) (level_with (joins o) level operand o)
go_on outer level operand (Symbol.sign CloseParenthesis) = close outer level operand
go_on outer level operand _ = None

abbrev pub moved : List Level → Level → Option Expression → Symbol → Option Partial
moved outer level None symbol = begin outer level symbol
moved outer level (Some operand) symbol = go_on outer level operand symbol

-- the expression with one more symbol, or None where it cannot stand there
abbrev pub partial_with : Partial → Symbol → Option Partial
partial_with x symbol = moved x.outer x.level x.operand symbol

-- the whole expression, if it may end
abbrev pub value_in : List Level → Level → Option Expression → Option Expression
value_in [] level operand = option_map (whole_of level) operand
value_in (around ∷ outer) level operand = None

abbrev pub value_of : Partial → Option Expression
value_of x = value_in x.outer x.level x.operand
