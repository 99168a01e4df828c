-- The trees of a core without where they lie in memory. A token is its index among the tokens of the named program's text.
use Rattle.std.specs.Prelude.{ℕ, Bool, true, false, ◌||◌, List}
use Rattle.lrc_program.specs.declared.Operator.{Operator}
use Rattle.lrc_program.specs.declared.Operator.TheVariants.{Add, Subtract, Multiply, Divide, Remainder, Equal, NotEqual}
use Rattle.lrc_program.specs.declared.Operator.TheVariants.{Less, LessOrEqual, Greater, GreaterOrEqual}

-- a private name: one of the named program, or one of the translation's own, with its number and the first and the last token of
-- the expression whose value it holds
pub data Private : Type 0 where
  named : List ℕ → Private
  own : (number first last : ℕ) → Private

pub data Expression : Type 0 where
  number : ℕ → Expression
  private : Private → Expression
  me : Expression
  nodes : Expression
  binary : Expression → Operator → Expression → Expression

-- what a trap says of the named program
pub data Trap : Type 0 where
  plain : Trap
  assertion : Trap
  index : List ℕ → Trap

-- what a statement comes from
pub record Origin : Type 0 where
  pub statement : ℕ
  pub line : ℕ
  pub trap : Trap

mutual
  pub data Statement : Type 0 where
    assign : Origin → Private → Expression → Statement
    read : Origin → Private → Expression → Statement
    write : Origin → Expression → Expression → Statement
    acquire : Origin → Expression → Statement
    release : Origin → Expression → Statement
    barrier : Origin → Statement
    print : Origin → Expression → Statement
    if_else : Origin → Expression → Block → Block → Statement
    while_do : Origin → Expression → Block → Statement

  pub data Block : Type 0 where
    empty : Block
    next : Statement → Block → Block

-- statements, and others behind them
abbrev pub behind : Block → Block → Block
behind empty others = others
behind (next first rest) others = next first (behind rest others)

-- one statement
abbrev pub only : Statement → Block
only statement = next statement empty

abbrev pub divides : Operator → Bool
divides Add = false
divides Subtract = false
divides Multiply = false
divides Divide = true
divides Remainder = true
divides Equal = false
divides NotEqual = false
divides Less = false
divides LessOrEqual = false
divides Greater = false
divides GreaterOrEqual = false

-- whether an expression has a division or a remainder
abbrev pub has_division : Expression → Bool
has_division (number n) = false
has_division (private name) = false
has_division me = false
has_division nodes = false
has_division (binary left o right) = divides o || has_division left || has_division right

-- whether it has a private name, also one of the translation's own
abbrev pub has_name : Expression → Bool
has_name (number n) = false
has_name (private name) = true
has_name me = false
has_name nodes = false
has_name (binary left o right) = has_name left || has_name right
