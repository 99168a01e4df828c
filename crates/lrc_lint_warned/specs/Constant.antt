-- Constants: expressions without a name, `me` and `nodes` that have a value.
use Rattle.std.specs.Prelude.{ℕ, ◌==◌, ◌&&◌, Bool, true, false, Option, Some, None}
use Rattle.lrc_program.specs.Statements.{Expression, number, private, me, nodes, binary}
use Rattle.lrc_exec.specs.Meaning.{combined}

-- the value of an expression that is a constant; one that divides by zero is none
abbrev pub constant_of : Expression → Option ℕ
constant_of (number n) = Some n
constant_of (private k) = None
constant_of me = None
constant_of nodes = None
constant_of (binary left o right) = combined o (constant_of left) (constant_of right)

-- whether an expression has no name, no `me` and no `nodes`
abbrev pub is_closed : Expression → Bool
is_closed (number n) = true
is_closed (private k) = false
is_closed me = false
is_closed nodes = false
is_closed (binary left o right) = is_closed left && is_closed right

-- whether a value is there, and is this one
abbrev pub is_value : Option ℕ → ℕ → Bool
is_value None n = false
is_value (Some value) n = value == n

-- whether an expression is this constant
abbrev pub is_constant : Expression → ℕ → Bool
is_constant e n = is_value (constant_of e) n
