-- What a name means where it is used.
use Rattle.std.specs.Prelude.{ℕ, Bool, true, false, Option, Some, None, List, []}
use Rattle.lrc_named_names.specs.Names.{Meaning, constant, shared, lock, function, Declared, meaning_of}
use Rattle.lrc_named_constants.specs.Constant.{Known, names_of}
use Rattle.lrc_named_constants.specs.Well.{is_among}

-- where an expression or a statement stands: what is declared before it, what is known of the parameters, the names that some
-- statement of the text sets, where these may stand, and whether it has to be constant
pub record Scope : Type 0 where
  pub declared : List Declared
  pub known : List Known
  pub assigned : List (List ℕ)
  pub constant : Bool

-- a name is a parameter, is declared, is private, or is unknown
pub data Sense : Type 0 where
  parameter : Sense
  declared : Meaning → Sense
  private_name : Sense
  unknown : Sense

-- what is set and not declared is private
abbrev pub undeclared_sense : (assigned : Bool) → Sense
undeclared_sense true = private_name
undeclared_sense false = unknown

abbrev pub declared_sense : Option Meaning → (assigned : Bool) → Sense
declared_sense None assigned = undeclared_sense assigned
declared_sense (Some meaning) assigned = declared meaning

-- a parameter hides what is declared
abbrev pub sense_by : (parameter : Bool) → Option Meaning → (assigned : Bool) → Sense
sense_by true meaning assigned = parameter
sense_by false meaning assigned = declared_sense meaning assigned

abbrev pub sense_of : Scope → List ℕ → Sense
sense_of scope name = sense_by (is_among (names_of scope.known) name) (meaning_of scope.declared name) (is_among scope.assigned name)

-- the sizes of a shared item, and of a lock: none of anything else
abbrev pub shared_sizes : Sense → List ℕ
shared_sizes parameter = []
shared_sizes (declared (constant v)) = []
shared_sizes (declared (shared item)) = item.sizes
shared_sizes (declared (lock item)) = []
shared_sizes (declared (function parameters body)) = []
shared_sizes private_name = []
shared_sizes unknown = []

abbrev pub lock_sizes : Sense → List ℕ
lock_sizes parameter = []
lock_sizes (declared (constant v)) = []
lock_sizes (declared (shared item)) = []
lock_sizes (declared (lock item)) = item.sizes
lock_sizes (declared (function parameters body)) = []
lock_sizes private_name = []
lock_sizes unknown = []

abbrev pub is_shared : Sense → Bool
is_shared parameter = false
is_shared (declared (constant v)) = false
is_shared (declared (shared item)) = true
is_shared (declared (lock item)) = false
is_shared (declared (function parameters body)) = false
is_shared private_name = false
is_shared unknown = false
