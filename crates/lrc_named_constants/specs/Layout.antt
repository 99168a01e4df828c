-- The layout of what is declared: each declaration makes the table of what is declared longer. The shared items have the words from 0
-- on, in the order in which they are declared, and the locks likewise.
use Rattle.std.specs.Prelude.{ℕ, ◌+◌, max, List, [], ◌∷◌, ◌++◌}
use Rattle.lrc_named_tree.specs.Tree.{Named, Expression, Expressions, Place, Declaration}
use Rattle.lrc_named_constants.specs.declared.constancy.Constancy.TheVariants.{Value}
use Rattle.lrc_named_names.specs.Names.{Meaning, constant, shared, lock, function, Declared}
use Rattle.lrc_named_constants.specs.Constant.{IsConstancy}
use Rattle.lrc_named_names.specs.Elements.{elements}

abbrev pub words_of : Meaning → ℕ
words_of (constant n) = 0
words_of (shared item) = elements item.sizes
words_of (lock item) = 0
words_of (function parameters body) = 0

abbrev pub locks_of : Meaning → ℕ
locks_of (constant n) = 0
locks_of (shared item) = 0
locks_of (lock item) = elements item.sizes
locks_of (function parameters body) = 0

-- how many words the shared items have, and how many locks there are
abbrev pub words_in : List Declared → ℕ
words_in [] = 0
words_in (d ∷ declared) = words_of d.meaning + words_in declared

abbrev pub locks_in : List Declared → ℕ
locks_in [] = 0
locks_in (d ∷ declared) = locks_of d.meaning + locks_in declared

-- how many words a core has: at least one
abbrev pub core_words : List Declared → ℕ
core_words declared = max 1 (words_in declared)

-- a name, declared with this meaning
abbrev pub as_meaning : Named → Meaning → Declared
as_meaning named meaning = record { name = named.bytes; meaning = meaning }

-- each size is constant, and these are the values
pub data HaveSizes (declared : List Declared) : Expressions → List ℕ → Type 0 where
  no_size : HaveSizes declared Expressions.none []
  one_size : {e : Expression} {others : Expressions} {size : ℕ} {sizes : List ℕ} →
      IsConstancy declared [] e (Value size) → HaveSizes declared others sizes → HaveSizes declared (Expressions.more e others) (size ∷ sizes)

-- shared items have come behind what was declared before, and locks
pub data DeclareShared : List Declared → List Place → List Declared → Type 0 where
  no_more_shared : {old : List Declared} → DeclareShared old [] old
  one_more_shared : {old new : List Declared} {p : Place} {others : List Place} {sizes : List ℕ} →
      HaveSizes old p.indices sizes →
      DeclareShared (old ++ as_meaning p.name (shared (record { first = words_in old; sizes = sizes })) ∷ []) others new →
      DeclareShared old (p ∷ others) new

pub data DeclareLocks : List Declared → List Place → List Declared → Type 0 where
  no_more_lock : {old : List Declared} → DeclareLocks old [] old
  one_more_lock : {old new : List Declared} {p : Place} {others : List Place} {sizes : List ℕ} →
      HaveSizes old p.indices sizes →
      DeclareLocks (old ++ as_meaning p.name (lock (record { first = locks_in old; sizes = sizes })) ∷ []) others new →
      DeclareLocks old (p ∷ others) new

-- a declaration has come behind what was declared before
pub data Declares : List Declared → Declaration → List Declared → Type 0 where
  a_node_count : {old : List Declared} {at n : ℕ} → Declares old (Declaration.node_count at n) old
  a_constant : {old : List Declared} {at v : ℕ} {named : Named} {value : Expression} →
      IsConstancy old [] value (Value v) →
      Declares old (Declaration.constant at named value) (old ++ as_meaning named (constant v) ∷ [])
  shared_items : {old new : List Declared} {at : ℕ} {items : List Place} →
      DeclareShared old items new → Declares old (Declaration.shared at items) new
  locks : {old new : List Declared} {at : ℕ} {items : List Place} →
      DeclareLocks old items new → Declares old (Declaration.lock at items) new
  a_function : {old : List Declared} {at : ℕ} {named : Named} {parameters : List Named} {body : Expression} →
      Declares old (Declaration.function at named parameters body) (old ++ as_meaning named (function parameters body) ∷ [])

-- these declarations, one behind the other
pub data AreDeclared : List Declared → List Declaration → List Declared → Type 0 where
  no_declaration : {old : List Declared} → AreDeclared old [] old
  one_declaration : {old between new : List Declared} {first : Declaration} {others : List Declaration} →
      Declares old first between → AreDeclared between others new → AreDeclared old (first ∷ others) new
