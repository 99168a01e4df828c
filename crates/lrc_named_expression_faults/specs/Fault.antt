-- Faults, and which one of several is told.
use Rattle.std.specs.Prelude.{◌≤◌, ℕ, Bool, ◌&&◌, ◌||◌, ◌==◌, Option, Some, None, if◌then◌else◌, List, codes, nat_lt}
use Rattle.lrc_named_expression_faults.specs.declared.fault.FaultKind.{FaultKind}
use Rattle.lrc_named_expression_faults.specs.declared.fault.FaultKind.TheVariants.{DeclaredTwice, ReservedName, UnknownName, WrongUse, WrongIndices, WrongArguments}
use Rattle.lrc_named_expression_faults.specs.declared.fault.FaultKind.TheVariants.{NotConstant, OverLimit, IndexOutOfRange, TooManyNames}
use Rattle.lrc_named_expression_faults.specs.declared.fault.Fault.{Fault}

-- this token has this fault
abbrev pub fault_at : ℕ → FaultKind → Fault
fault_at at kind = record { at = at; kind = kind }

-- of several faults of one token the one with the least rank is told
abbrev pub rank_of : FaultKind → ℕ
rank_of DeclaredTwice = 0
rank_of ReservedName = 1
rank_of UnknownName = 2
rank_of WrongUse = 3
rank_of WrongIndices = 4
rank_of WrongArguments = 5
rank_of NotConstant = 6
rank_of (OverLimit limit) = 7
rank_of IndexOutOfRange = 8
rank_of TooManyNames = 9

abbrev pub words_of : FaultKind → List ℕ
words_of DeclaredTwice = codes "declared twice"
words_of ReservedName = codes "reserved name"
words_of UnknownName = codes "unknown name"
words_of WrongUse = codes "wrong use of a name"
words_of WrongIndices = codes "wrong number of indices"
words_of WrongArguments = codes "wrong number of arguments"
words_of NotConstant = codes "not a constant"
words_of (OverLimit limit) = codes "over a limit"
words_of IndexOutOfRange = codes "index out of range"
words_of TooManyNames = codes "too many names"

-- the first fault's token does not stand behind the other one's; where both are of one token, its rank is not greater
pub record ComesFirst (first other : Fault) : Type 0 where
  pub place : first.at ≤ other.at
  pub rank : other.at ≤ first.at → rank_of first.kind ≤ rank_of other.kind

-- the first of the faults that are these, or none, where there are none
abbrev pub IsFirstOf : (Fault → Type 0) → Option Fault → Type 0
IsFirstOf IsOne None = (fault : Fault) → IsOne fault → ⊥
IsFirstOf IsOne (Some first) = IsOne first × ((other : Fault) → IsOne other → ComesFirst first other)

-- nothing has a fault
abbrev pub IsNone : (Fault → Type 0) → Type 0
IsNone IsOne = (fault : Fault) → IsOne fault → ⊥

-- whether a fault is told rather than the other one
abbrev pub precedes : Fault → Fault → Bool
precedes first other = nat_lt first.at other.at || ((first.at == other.at) && nat_lt (rank_of first.kind) (rank_of other.kind))

-- the one of two faults that is told
abbrev pub earlier : Option Fault → Option Fault → Option Fault
earlier None other = other
earlier (Some one) None = Some one
earlier (Some one) (Some other) = if precedes other one then Some other else Some one
