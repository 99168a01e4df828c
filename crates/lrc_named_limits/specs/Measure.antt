-- What is counted of an expression, as far as the limits ask.
use Rattle.std.specs.Prelude.{◌≡◌, Bool, false, min, Option, Some, None}
use Rattle.lrc_program.specs.declared.Operator.{Operator}
use Rattle.lrc_lang.specs.Grammar.{joins}
use Rattle.lrc_named_core.specs.Tree.{Expression, number, private, me, nodes, binary}
use Rattle.lrc_named_text.specs.declared.expression.Room.{Room}
use Rattle.lrc_named_text.specs.declared.expression.Room.TheVariants.{Whole}
use Rattle.lrc_named_text.specs.Expressions.{is_grouped}
use Rattle.lrc_named_limits.specs.declared.measure.Measure.{Measure}
use Rattle.lrc_named_limits.specs.Limits.{greatest_own, open_in, operators}

-- the operator that joins the sides of an expression, if it has sides
abbrev pub top_of : Expression → Option Operator
top_of (number n) = None
top_of (private name) = None
top_of me = None
top_of nodes = None
top_of (binary left o right) = Some o

-- whether an expression with this operator needs parentheses where there is room for this
abbrev pub needs_parentheses : Room → Option Operator → Bool
needs_parentheses room None = false
needs_parentheses room (Some o) = is_grouped room (joins o)

-- operators are counted as far as to 257, and open `(` as far as to 33
pub record IsMeasure (e : Expression) (m : Measure) : Type 0 where
  pub operators : m.operators ≡ min (operators e) 257
  pub depth : m.depth ≡ min (open_in Whole e) 33
  pub top : m.top ≡ top_of e
  pub own : m.own ≡ greatest_own e
