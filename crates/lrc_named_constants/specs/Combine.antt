-- What is known of an expression, by what is known of its parts.
use Rattle.std.specs.Prelude.{ℕ, zero, suc, Bool, true, false, Option, Some, None, List, [], ◌∷◌}
use Rattle.lrc_program.specs.declared.Operator.{Operator}
use Rattle.lrc_program.specs.declared.Operator.TheVariants.{Equal, NotEqual}
use Rattle.lrc_exec.specs.Meaning.{operated}
use Rattle.lrc_named_constants.specs.declared.constancy.Constancy.{Constancy}
use Rattle.lrc_named_constants.specs.declared.constancy.Constancy.TheVariants.{Varies, Undefined, Value}

-- constant, with this value, where there is one
abbrev pub constant_of : Option ℕ → Constancy
constant_of None = Undefined
constant_of (Some v) = Value v

-- an operator and its sides: constant where both are, with a value where both have one and it divides by no zero
abbrev pub joined : Operator → Constancy → Constancy → Constancy
joined o Varies right = Varies
joined o Undefined Varies = Varies
joined o Undefined Undefined = Undefined
joined o Undefined (Value y) = Undefined
joined o (Value x) Varies = Varies
joined o (Value x) Undefined = Undefined
joined o (Value x) (Value y) = constant_of (operated o x y)

-- whether it holds: 1 where the value is not 0, and else 0
abbrev pub truth_of : Constancy → Constancy
truth_of right = joined NotEqual right (Value 0)

abbrev pub negated : Constancy → Constancy
negated operand = joined Equal operand (Value 0)

abbrev pub is_varying : Constancy → Bool
is_varying Varies = true
is_varying Undefined = false
is_varying (Value v) = false

-- a constant that stands where another one may vary
abbrev pub unless_varies : Constancy → Constancy → Constancy
unless_varies Varies known = Varies
unless_varies Undefined known = known
unless_varies (Value y) known = known

-- `left and right`: 0 where the left side is 0, whatever the right one's value is
abbrev pub both_of : Constancy → Constancy → Constancy
both_of Varies right = Varies
both_of Undefined right = unless_varies right Undefined
both_of (Value zero) right = unless_varies right (Value 0)
both_of (Value (suc x)) right = truth_of right

-- `left or right`: 1 where the left side is not 0, whatever the right one's value is
abbrev pub either_of : Constancy → Constancy → Constancy
either_of Varies right = Varies
either_of Undefined right = unless_varies right Undefined
either_of (Value zero) right = truth_of right
either_of (Value (suc x)) right = unless_varies right (Value 1)

-- a call with arguments of which this is known, and whose body would be so with them: constant where all arguments are, those too
-- that the body does not name, and the body is
abbrev pub called : List Constancy → Constancy → Constancy
called [] body = body
called (Varies ∷ others) body = Varies
called (Undefined ∷ others) body = called others body
called (Value v ∷ others) body = called others body
