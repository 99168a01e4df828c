-- An expression of which some tokens have come: what the parser keeps of it, and what the next token makes of that.
use Rattle.std.specs.Prelude.{ℕ, List, [], ◌∷◌, Option, Some, None}
use Rattle.lrc_program.specs.declared.Operator.{Operator}
use Rattle.lrc_named_tokens.specs.declared.token.Keyword.TheVariants as keywords
use Rattle.lrc_named_tokens.specs.declared.token.Sign.{Sign}
use Rattle.lrc_named_tokens.specs.declared.token.Sign.TheVariants as signs
use Rattle.lrc_named_tokens.specs.Token.{Token}
use Rattle.lrc_named_tokens.specs.Token as token
use Rattle.lrc_named_tree.specs.Tree.{Named, Expression, Expressions}
use Rattle.lrc_named_tree.specs.Grammar.{named}
use Rattle.lrc_named_expression.specs.Link.{Link, factors, terms, sums, all_hold, one_holds, link_of}

-- a left side, and the operator behind it
pub record Pending : Type 0 where
  pub left : Expression
  pub operator : Operator

-- what waits for its right side between two of `and`, `or`: what stands in front of the last `or`, what stands between
-- that and the last `and`, and which tokens each `not` behind them is, the last one first
pub record Tests : Type 0 where
  pub either : Option Expression
  pub both : Option Expression
  pub negations : List ℕ

-- what waits for its right side, outside of all brackets or inside of some: besides, a sum that is compared, and a sum and
-- a term of which some operands have come
pub record Level : Type 0 where
  pub tests : Tests
  pub compared : Option Pending
  pub added : Option Pending
  pub multiplied : Option Pending

-- what an open bracket belongs to: a group, with its own token; a call, with the arguments that have come; an element,
-- with the indices that have come
pub data Opening : Type 0 where
  group : ℕ → Opening
  argument : Named → Expressions → Opening
  index : Named → Expressions → Opening

-- an open bracket, and what waits around it
pub record Around : Type 0 where
  pub opening : Opening
  pub level : Level

-- where the last token has led to
pub data Place : Type 0 where
  -- an operand or a `not` has to begin
  at_test : Place
  -- an operand has to begin
  at_factor : Place
  -- behind a name, behind which an index or a call may begin
  after_name : Named → Place
  -- behind the last token of an index
  after_index : Named → Expressions → ℕ → Place
  -- behind a name and the `(` of its call
  after_call : Named → Place
  -- behind an operand
  after_operand : Expression → Place

-- the open brackets, innermost first, the level, and the place
pub record Partial : Type 0 where
  pub outer : List Around
  pub level : Level
  pub place : Place

abbrev pub no_tests : Tests
no_tests = record { either = None; both = None; negations = [] }

-- at a test, nothing else waits
abbrev pub bare : Tests → Level
bare tests = record { tests = tests; compared = None; added = None; multiplied = None }

abbrev pub at : List Around → Level → Place → Partial
at outer level place = record { outer = outer; level = level; place = place }

abbrev pub nothing : Partial
nothing = at [] (bare no_tests) at_test

-- ---- wholes

-- expressions, and others behind them
abbrev pub append : Expressions → Expressions → Expressions
append Expressions.none others = others
append (Expressions.more first some) others = Expressions.more first (append some others)

-- the expressions, and one more
abbrev pub push : Expressions → Expression → Expressions
push some last = append some (Expressions.more last Expressions.none)

-- this operand, behind what waits for it
abbrev pub joined : Option Pending → Expression → Expression
joined None right = right
joined (Some p) right = Expression.binary p.left p.operator right

abbrev pub negated : List ℕ → Expression → Expression
negated [] e = e
negated (last ∷ others) e = negated others (Expression.negation last e)

abbrev pub joined_both : Option Expression → Expression → Expression
joined_both None right = right
joined_both (Some left) right = Expression.both left right

abbrev pub joined_either : Option Expression → Expression → Expression
joined_either None right = right
joined_either (Some left) right = Expression.either left right

-- the whole that this operand ends
abbrev pub term_of : Level → Expression → Expression
term_of level operand = joined level.multiplied operand

abbrev pub sum_of : Level → Expression → Expression
sum_of level operand = joined level.added (term_of level operand)

abbrev pub test_of : Level → Expression → Expression
test_of level operand = negated level.tests.negations (joined level.compared (sum_of level operand))

abbrev pub both_of : Level → Expression → Expression
both_of level operand = joined_both level.tests.both (test_of level operand)

abbrev pub whole_of : Level → Expression → Expression
whole_of level operand = joined_either level.tests.either (both_of level operand)

-- ---- one token

abbrev pub waiting : Expression → Operator → Option Pending
waiting left o = Some (record { left = left; operator = o })

-- what waits once a sum is to be compared: no sum may be compared twice
abbrev pub compared_with : List Around → Tests → Option Pending → Expression → Operator → Option Partial
compared_with outer tests None left o =
    Some (at outer (record { tests = tests; compared = waiting left o; added = None; multiplied = None }) at_factor)
compared_with outer tests (Some p) left o = None

-- behind an operand and what joins it to the next
abbrev pub linked : Link → List Around → Level → Expression → Option Partial
linked (factors o) outer level operand = Some (at outer (record level { multiplied = waiting (term_of level operand) o }) at_factor)
linked (terms o) outer level operand =
    Some (at outer (record { tests = level.tests; compared = level.compared; added = waiting (sum_of level operand) o; multiplied = None }) at_factor)
linked (sums o) outer level operand = compared_with outer level.tests level.compared (sum_of level operand) o
linked all_hold outer level operand =
    Some (at outer (bare (record { either = level.tests.either; both = Some (both_of level operand); negations = [] })) at_test)
linked one_holds outer level operand = Some (at outer (bare (record { either = Some (whole_of level operand); both = None; negations = [] })) at_test)

-- behind what stands in a bracket and a sign: the bracket is closed, or the next argument begins
abbrev pub closed_by : Sign → List Around → Level → Opening → Expression → ℕ → Option Partial
closed_by signs.CloseParenthesis outer level (group opens) inside closes = Some (at outer level (after_operand (Expression.group opens inside closes)))
closed_by signs.CloseParenthesis outer level (argument name others) inside closes =
    Some (at outer level (after_operand (Expression.call name (push others inside) closes)))
closed_by signs.Comma outer level (argument name others) inside comma =
    Some (at (record { opening = argument name (push others inside); level = level } ∷ outer) (bare no_tests) at_test)
closed_by signs.CloseBracket outer level (index name others) inside closes = Some (at outer level (after_index name (push others inside) closes))
closed_by _ _ _ _ _ _ = None

abbrev pub closed : List Around → Level → Opening → Expression → ℕ → Token → Option Partial
closed outer level opening inside i (token.sign mark) = closed_by mark outer level opening inside i
closed outer level opening inside i _ = None

abbrev pub close : List Around → Expression → ℕ → Token → Option Partial
close [] inside closes t = None
close (around ∷ outer) inside closes t = closed outer around.level around.opening inside closes t

-- behind an operand
abbrev pub join_or_close : Option Link → List Around → Level → Expression → ℕ → Token → Option Partial
join_or_close (Some link) outer level operand i t = linked link outer level operand
join_or_close None outer level operand i t = close outer (whole_of level operand) i t

abbrev pub go_on : List Around → Level → Expression → ℕ → Token → Option Partial
go_on outer level operand i t = join_or_close (link_of t) outer level operand i t

-- a bracket begins
abbrev pub opened : List Around → Level → Opening → Partial
opened outer level opening = at (record { opening = opening; level = level } ∷ outer) (bare no_tests) at_test

-- where an operand has to begin
abbrev pub begin : List Around → Level → ℕ → Token → Option Partial
begin outer level i (token.number n) = Some (at outer level (after_operand (Expression.number i n)))
begin outer level i (token.name bytes) = Some (at outer level (after_name (named i bytes)))
begin outer level i (token.keyword keywords.Me) = Some (at outer level (after_operand (Expression.me i)))
begin outer level i (token.keyword keywords.Nodes) = Some (at outer level (after_operand (Expression.nodes i)))
begin outer level i (token.sign signs.OpenParenthesis) = Some (opened outer level (group i))
begin outer level i _ = None

-- where an operand or a `not` has to begin
abbrev pub begin_test : List Around → Tests → ℕ → Token → Option Partial
begin_test outer tests i (token.keyword keywords.Not) =
    Some (at outer (bare (record { either = tests.either; both = tests.both; negations = i ∷ tests.negations })) at_test)
begin_test outer tests i t = begin outer (bare tests) i t

-- behind an index
abbrev pub behind_index : List Around → Level → Named → Expressions → ℕ → ℕ → Token → Option Partial
behind_index outer level name others last i (token.sign signs.OpenBracket) = Some (opened outer level (index name others))
behind_index outer level name others last i t = go_on outer level (Expression.element name others last) i t

-- behind a name
abbrev pub behind_name : List Around → Level → Named → ℕ → Token → Option Partial
behind_name outer level name i (token.sign signs.OpenParenthesis) = Some (at outer level (after_call name))
behind_name outer level name i t = behind_index outer level name Expressions.none name.at i t

-- behind the `(` of a call
abbrev pub behind_call : List Around → Level → Named → ℕ → Token → Option Partial
behind_call outer level name i (token.sign signs.CloseParenthesis) = Some (at outer level (after_operand (Expression.call name Expressions.none i)))
behind_call outer level name i t = begin_test (record { opening = argument name Expressions.none; level = level } ∷ outer) no_tests i t

abbrev pub moved : List Around → Level → Place → ℕ → Token → Option Partial
moved outer level at_test i t = begin_test outer level.tests i t
moved outer level at_factor i t = begin outer level i t
moved outer level (after_name name) i t = behind_name outer level name i t
moved outer level (after_index name others last) i t = behind_index outer level name others last i t
moved outer level (after_call name) i t = behind_call outer level name i t
moved outer level (after_operand operand) i t = go_on outer level operand i t

-- the expression with one more token, or None where it cannot stand there
abbrev pub partial_with : Partial → ℕ → Token → Option Partial
partial_with x i t = moved x.outer x.level x.place i t

-- the operand that has come, if the expression may go on behind one
abbrev pub operand_at : Place → Option Expression
operand_at (after_name name) = Some (Expression.element name Expressions.none name.at)
operand_at (after_index name others last) = Some (Expression.element name others last)
operand_at (after_operand operand) = Some operand
operand_at _ = None

abbrev pub whole_with : Level → Option Expression → Option Expression
whole_with level (Some operand) = Some (whole_of level operand)
whole_with level None = None

-- the whole expression, if it may end
abbrev pub value_in : List Around → Level → Option Expression → Option Expression
value_in [] level operand = whole_with level operand
value_in (around ∷ outer) level operand = None

abbrev pub value_of : Partial → Option Expression
value_of x = value_in x.outer x.level (operand_at x.place)
